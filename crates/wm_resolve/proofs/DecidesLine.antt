-- What ResolveConflicts decides is what the state says, and it can be committed.
use Rattle.std.proofs.Common.{◌≡◌, ℕ, ◌+◌, ◌==◌, ◌&&◌, nat_le, nat_lt, Bool, true, false, if◌then◌else◌, List, [], ◌∷◌, length, Option, None, Some, is_some, option_map, refl, sym, ap, ◌∙◌, subst, arith, eqb-true}
use Rattle.std.proofs.lemmas.Bool.Decides.{nat_tests}
use Rattle.std.proofs.lemmas.List.Elements.{All-cons, All-filter, All-head, All-nil, All-tail}
use Rattle.std.proofs.lemmas.Bool.{and_from, and_parts}
use Rattle.std.proofs.lemmas.Option.{same_Some}
use Rattle.std.specs.Bool.{then_some}
use Rattle.std.specs.List.{All, cons_option, filter, filter_map, list_all}
use Rattle.std.specs.Option.{option_map_or, option_or}
use Rattle.wm_syntax.specs.Trees.{Cond}
use Rattle.wm_listing.specs.declared.columns.Column.{Column}
use Rattle.wm_base.specs.declared.instant.TheConstants.{END}
use Rattle.wm_base.specs.declared.value.Value.{Value}
use Rattle.wm_decided.specs.Deciding.{copied_on, decided_on, decision_of, told_on}
use Rattle.wm_decided.specs.Keys.{columns_of_keys, key_as_row, meets_key}
use Rattle.wm_decided.specs.Staged.{IsRestorable, IsStaged}
use Rattle.wm_decided.specs.declared.keep.Keep.{Keep}
use Rattle.wm_decided.specs.declared.keep.Keep.TheVariants.{Parent, Child, Base}
use Rattle.wm_dml.specs.Changing.{meets}
use Rattle.wm_graph.specs.Parts.{Parts, parts_of, table_of}
use Rattle.wm_graph.specs.Rules.{is_key_of}
use Rattle.wm_net.specs.Conflicts.{Sides, Stamps, all_sides, conflict_at, conflicts, grouped, in_table, same_stamps}
use Rattle.wm_net.specs.Groups.{Group, cell}
use Rattle.wm_net.specs.Listed.{IsListing, Stretch}
use Rattle.wm_net.specs.Nets.{replayed}
use Rattle.wm_net.proofs.Conflicting.{Steady-conflict}
use Rattle.wm_spec.specs.Lists as lists
use Rattle.wm_spec.specs.Lists.{Cell, Entry, Told, covers, is_of, told, told_of}
use Rattle.wm_spec.specs.declared.record.space.Space.{Space}
use Rattle.wm_spec.specs.declared.record.stored.Stored.{Stored}
use Rattle.wm_spec.specs.declared.record.table.Table.{Table}
use Rattle.wm_state.specs.Drafts.{can_keep}
use Rattle.wm_state.specs.Standing.{IsReal, held_of, is_ready}
use Rattle.wm_state.specs.State.{Decision, Session, State, Workspace}
use Rattle.wm_state.proofs.Ready.{tables_found}
use Rattle.wm_telling.specs.Sides.{sides}
use Rattle.wm_telling.specs.Telling.{clash_held}
use Rattle.wm_telling.proofs.Beside.{child_recorded, own_is_held}
use Rattle.wm_model.specs.Merged.{NamesFamily}
use Rattle.wm_model.specs.Planning.{StandsAt}
use Rattle.wm_model.specs.Step.{decide, has_open}
use Rattle.wm_model.proofs.Families.{Related, related}
use Rattle.wm_model.proofs.Lawful.Nets.{told_tells}
use Rattle.wm_model.proofs.Recorded.{home}
use Rattle.wm_model.proofs.Unready.{filled_kept}
use Rattle.wm_resolve.proofs.DecidingLine.{base_sound, decide_to, found_same, parent_sound, tell_sides}
use Rattle.wm_resolve.proofs.Keyed.{IsLaid, laid_keyed, own_laid}
use Rattle.wm_resolve.proofs.Listed.{IsGiven, listing_each}
use Rattle.wm_resolve.proofs.OpeningLine.{resolving}
use Rattle.wm_resolve.proofs.Staging.{restorable_told}
use Rattle.wm_resolve.specs.Deciding.{Decides, resolve_to}
use Rattle.wm_resolve.specs.Telling.{TellSides}

-- stretches whose keys pass a test
abbrev meant : (List Value → Bool) → List (Group × Stretch Stamps) → List (Group × Stretch Stamps)
meant test xs = filter (λ (x : Group × Stretch Stamps). test x.0.key) xs

-- the table of a cell at which real entries tell something is ready
real_ready : (tables : List Table) (es : List Entry) (c : Cell) (y : Told) → All (IsReal tables) es → told es c ≡ Some y → is_ready tables c.table ≡ true
real_ready tables [] c y real is = absurd (cc)
real_ready tables (e ∷ es) c y real is = by_told (told es c) (covers e c) refl (λ found. real_ready tables es c y (All-tail (IsReal tables) e es real) found) is
  where
    by_told : (o : Option Told) (b : Bool) → covers e c ≡ b → (o ≡ Some y → is_ready tables c.table ≡ true) → option_or o (then_some b (told_of e)) ≡ Some y → is_ready tables c.table ≡ true
    by_told (Some x) b here rest e = rest e
    by_told None true here rest same =
        subst (λ n. is_ready tables n ≡ true) (eqb-true e.table c.table (and_parts (e.table == c.table) _ (and_parts (is_of c.table c.key e) _ here).0).0) (All-head (IsReal tables) e es real).on
    by_told None false here rest e = absurd (cc)

module _ (rs : List Stored) (xs : List Session) (m : ℕ) (a b : Space) (s : State) (w : Workspace) (st : StandsAt rs xs m s) (r : Related rs a b s w) where
  abbrev p : Parts
  p = parts_of rs

  abbrev both_sides : Sides
  both_sides = sides r.q w

  -- what is known of a cell that the workspace changed
  record Own (c : Cell) : Type 0 where
    told : Told
    found : lists.told w.lists.own c ≡ Some told
    laid : IsLaid p c

  own_of : (c : Cell) → is_some (conflict_at both_sides c) ≡ true → Own c
  own_of c some = by_told (told w.lists.own c) refl (touched_own (told w.lists.own c) _ _ some)
    where
      touched_own : (o : Option Told) (rest : Bool) (x : Stamps) → is_some (then_some (is_some o && rest) x) ≡ true → is_some o ≡ true
      touched_own None rest x e = e
      touched_own (Some y) rest x e = refl

      by_told : (o : Option Told) → told w.lists.own c ≡ o → is_some o ≡ true → Own c
      by_told None is e = absurd (cc)
      by_told (Some y) is e = record {
        told = y;
        found = is;
        laid = own_laid p st.stands.rules a c (held_of y) (own_is_held p s.durable a.number w a st.stands r.beside.is (child_recorded p s.durable a.number w r.q a b r.beside) c ∙ ap (option_map held_of) is);
      }

  -- a stretch of conflict
  abbrev IsContested : Group × Stretch Stamps → Type 0
  IsContested x = IsGiven (λ t. conflict_at both_sides (cell x.0 t)) x.1

  module _ (x : Group × Stretch Stamps) (contested : IsContested x) where
    here : Own (cell x.0 contested.time)
    here = own_of (cell x.0 contested.time) (ap is_some contested.is)

    last : Own (cell x.0 contested.last)
    last = own_of (cell x.0 contested.last) contested.given

    is_key : option_map_or (is_key_of x.0.key) (table_of p.tables x.0.table) false ≡ true
    is_key = laid_keyed p (cell x.0 contested.time) here.laid

    ended : nat_le x.1.till END ≡ true
    ended =
        let over = and_parts (nat_lt last.laid.piece.cells.from last.laid.piece.cells.till && nat_le last.laid.piece.cells.till END) _ last.laid.cells in
        by_numbers contested.last x.1.till last.laid.piece.cells.till contested.till last.laid.till (and_parts (nat_lt last.laid.piece.cells.from last.laid.piece.cells.till) (nat_le last.laid.piece.cells.till END) over.0).1
      where
        by_numbers : (t till end : ℕ) → t + 1 ≡ till → nat_lt t end ≡ true → nat_le end END ≡ true → nat_le till END ≡ true
        by_numbers t till end e lt le = grind (arith, nat_tests, e, lt, le)

    ready : is_ready p.tables x.0.table ≡ true
    ready =
        sym (ap (λ (o : Option Table). option_map_or (λ (t : Table). t.versioned) o false) (tables_found p s.durable st.stands.tables x.0.table))
        ∙ real_ready s.durable.tables w.lists.own (cell x.0 contested.time) here.told (st.stands.entries.own a.number w r.beside.is) here.found

    kept : list_all can_keep x.0.key ≡ true
    kept =
        filled_kept x.0.key
        (told_tells st.lawful.durable.entries.tells s.durable.next_stamp w.lists.own (cell x.0 contested.time) here.told (st.lawful.durable.entries.each a.number w r.beside.is).own here.found).3

    copies_can : (keep : Keep) (ss : List _) → copied_on keep both_sides x ≡ Some ss → All (λ z. IsRestorable p (replayed 0 [] x.0 z)) ss
    copies_can Parent ss is =
        subst (All (λ z. IsRestorable p (replayed 0 [] x.0 z))) (same_Some (told_on both_sides.parent x.0 x.1) ss is)
        (restorable_told p st.stands.rules _ both_sides.parent (tell_sides rs xs m a b s w st r).parent st.lawful.durable.entries.tells s.durable.next_stamp (parent_sound rs xs m a b s w st r) x.0 x.1 (record { ready = ready; kept = kept }))
    copies_can Child ss is = subst (All (λ z. IsRestorable p (replayed 0 [] x.0 z))) (same_Some [] ss is) (All-nil (λ z. IsRestorable p (replayed 0 [] x.0 z)))
    copies_can Base ss is = by_base (is_some x.1.value.base) is
      where
        by_base : (t : Bool) → (if t then Some (told_on both_sides.base x.0 x.1) else None) ≡ Some ss → All (λ z. IsRestorable p (replayed 0 [] x.0 z)) ss
        by_base true e =
            subst (All (λ z. IsRestorable p (replayed 0 [] x.0 z))) (same_Some (told_on both_sides.base x.0 x.1) ss e)
            (restorable_told p st.stands.rules _ both_sides.base (tell_sides rs xs m a b s w st r).base st.lawful.durable.entries.tells s.durable.next_stamp (base_sound rs xs m a b s w st r) x.0 x.1 (record { ready = ready; kept = kept }))
        by_base false e = absurd (cc)

    decided_staged : (keep : Keep) (d : Decision) → decided_on keep both_sides x ≡ Some d → IsStaged p d
    decided_staged keep d is = by_copied (copied_on keep both_sides x) refl is
      where
        by_copied : (o : Option (List _)) → copied_on keep both_sides x ≡ o → option_map (decision_of x (length both_sides.log)) o ≡ Some d → IsStaged p d
        by_copied None copied e = absurd (cc)
        by_copied (Some ss) copied e =
            subst (IsStaged p) (same_Some (decision_of x (length both_sides.log) ss) d e)
            (record {
              cells = and_from (nat_lt x.1.from x.1.till && nat_le x.1.till END) _ (and_from (nat_lt x.1.from x.1.till) (nat_le x.1.till END) (let real = contested.real in grind (arith, nat_tests, real)) ended) is_key;
              kept = kept;
              copies = copies_can keep ss copied;
            })

  all_staged : (keep : Keep) (cs : List (Group × Stretch Stamps)) → All IsContested cs → All (IsStaged p) (filter_map (decided_on keep both_sides) cs)
  all_staged keep [] all = All-nil (IsStaged p)
  all_staged keep (x ∷ cs) all = by_decision (decided_on keep both_sides x) refl (all_staged keep cs (All-tail IsContested x cs all))
    where
      by_decision : (o : Option Decision) → decided_on keep both_sides x ≡ o → All (IsStaged p) (filter_map (decided_on keep both_sides) cs)
          → All (IsStaged p) (cons_option o (filter_map (decided_on keep both_sides) cs))
      by_decision None is rest = rest
      by_decision (Some d) is rest = All-cons (IsStaged p) d (filter_map (decided_on keep both_sides) cs) (decided_staged x (All-head IsContested x cs all) keep d is) rest

  all_contested : (table : ℕ) (test : List Value → Bool) → All IsContested (meant test (filter (λ (x : Group × Stretch Stamps). x.0.table == table) (conflicts both_sides)))
  all_contested table test =
      All-filter (λ (x : Group × Stretch Stamps). test x.0.key) IsContested (filter (λ (x : Group × Stretch Stamps). x.0.table == table) (conflicts both_sides))
      (All-filter (λ (x : Group × Stretch Stamps). x.0.table == table) IsContested (conflicts both_sides)
      (listing_each same_stamps grouped (all_sides both_sides) (conflict_at both_sides) IsContested (Steady-conflict both_sides) (λ g z given. given)))

-- ---- the line

pub decides : (rs : List Stored) (xs : List Session) (m : ℕ) (session : Session) (workspace : List ℕ) (a b : Space) (table : Table) (condition : Option Cond) (keep : Keep) (columns : List Column) (found : List (Group × Stretch Stamps)) (ds : List Decision)
    → NamesFamily rs workspace a b → has_open a.number session ≡ true → columns ≡ columns_of_keys table → IsListing same_stamps grouped (in_table table.number (clash_held (parts_of rs) a b)) found
    → ((s : Sides) → TellSides (parts_of rs) a b s → ds ≡ filter_map (decided_on keep s) (filter (λ (x : Group × Stretch Stamps). meets condition columns (key_as_row x.0.key)) found))
    → Decides rs xs m session ds (resolve_to session workspace table condition keep false)
decides rs xs m session workspace a b table condition keep columns found ds names has same listing decided = record {
  made = λ s st. let h = home rs xs m workspace a s names.space st in
      let w = h.workspace in
      let r = related rs xs m a b s w h.is names.child names.parent st in
      resolving rs xs m session workspace (decide_to session table condition keep) a true s names.space st has
      ∙ ap (λ (q : Workspace). decide session (filter_map (decided_on keep (sides q w)) (meant (meets_key table condition) (filter (λ (x : Group × Stretch Stamps). x.0.table == table.number) (conflicts (sides q w))))) s) r.parent_is
      ∙ ap (λ (ys : List Decision). decide session ys s) (sym (is s w st r));
  staged = λ s st. let h = home rs xs m workspace a s names.space st in
      let w = h.workspace in
      let r = related rs xs m a b s w h.is names.child names.parent st in
      subst (All (IsStaged (parts_of rs))) (sym (is s w st r)) (all_staged rs xs m a b s w st r keep _ (all_contested rs xs m a b s w st r table.number (meets_key table condition)));
}
  where
    is : (s : State) (w : Workspace) (st : StandsAt rs xs m s) (r : Related rs a b s w)
        → ds ≡ filter_map (decided_on keep (sides r.q w)) (meant (meets_key table condition) (filter (λ (x : Group × Stretch Stamps). x.0.table == table.number) (conflicts (sides r.q w))))
    is s w st r =
        decided (sides r.q w) (tell_sides rs xs m a b s w st r)
        ∙ ap (λ (cs : List Column). filter_map (decided_on keep (sides r.q w)) (filter (λ (x : Group × Stretch Stamps). meets condition cs (key_as_row x.0.key)) found)) same
        ∙ ap (λ (ys : List (Group × Stretch Stamps)). filter_map (decided_on keep (sides r.q w)) (meant (meets_key table condition) ys)) (found_same rs xs m a b s w st r table.number found listing)
