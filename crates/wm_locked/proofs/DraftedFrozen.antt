-- What the batch that freezes a workspace makes of each state.
use Rattle.std.proofs.Common.{◌≡◌, ◌≢◌, ℕ, ◌+◌, ◌≤◌, ◌==◌, nat_lt, nat_le, ◌&&◌, ◌^◌, true, false, List, [], ◌∷◌, ◌++◌, length, length-append, Some, refl, sym, ap, subst, ◌∙◌, arith}
use Rattle.std.proofs.lemmas.Bool.{eqb-false, eqb-true, ne_eqb, and_from, and_parts, le-leb, true≢false}
use Rattle.std.proofs.lemmas.Option.{same_Some}
use Rattle.std.specs.List.{list_all}
use Rattle.wm_base.proofs.Plain.{nat_le-itself}
use Rattle.wm_graph.specs.Parts.{Parts, as_space, parts_of, space_of}
use Rattle.wm_graph.specs.Rules.{are_counters, are_hists, are_locks, are_pieces, are_rows, are_savepoints, are_spaces, are_versions, has_few, is_short, is_space, keep_rules}
use Rattle.wm_spec.specs.Records.{AreChanges, record_at}
use Rattle.wm_spec.specs.declared.record.Record.TheVariants as records
use Rattle.wm_spec.specs.declared.record.batch.Change.{Change}
use Rattle.wm_spec.specs.declared.record.counters.Counters.{Counters}
use Rattle.wm_spec.specs.declared.record.space.FreezeMode.{FreezeMode}
use Rattle.wm_spec.specs.declared.record.space.Space.{Space}
use Rattle.wm_spec.specs.declared.record.stored.Stored.{Stored}
use Rattle.wm_state.specs.Batches.{put}
use Rattle.wm_state.specs.ById.{Ascend, applied, set_at}
use Rattle.wm_state.specs.Drafts.{CanFreeze, CanWork, DraftsBy}
use Rattle.wm_state.specs.Editing.{drafted_by, frozen, frozen_in}
use Rattle.wm_state.specs.Points.{moved}
use Rattle.wm_state.specs.State.{Durable, Workspace}
use Rattle.wm_state.specs.Standing.{CountersStand, FieldsStand, SpaceFields, Stands, fields_in, fields_of}
use Rattle.wm_state.specs.declared.edit.Edit.TheVariants as edits
use Rattle.wm_state.specs.declared.edit.NewEntry.{NewEntry}
use Rattle.wm_state.proofs.Apart.{Ruled, each_space, keeps_all, ruled}
use Rattle.wm_state.proofs.ById.{Ascend-set}
use Rattle.wm_state.proofs.ByKind.{Split, kinds, set-split, split_of, stored}
use Rattle.wm_state.proofs.Counting.{CountsAs, counts_as, counts_in, moved_well, two_changes}
use Rattle.wm_state.proofs.Drafted.{some_edit}
use Rattle.wm_state.proofs.Growing.{same_counters}
use Rattle.wm_state.proofs.Keeping.{KeepRows-same, KeepSpaces, KeepSpaces-swap, KeepTables-same, KeepVersions-same, are_hists-kept, are_savepoints-kept}
use Rattle.wm_state.proofs.KeepingTurns.{are_locks-kept, are_marks-kept, are_touches-kept, are_turns-kept, turned-swap}
use Rattle.wm_state.proofs.Named.{ruled_savepoints}
use Rattle.wm_state.proofs.Planned.{counted, found_still}
use Rattle.wm_state.proofs.Planning.{parts-spaced, recounted, spaces-split}
use Rattle.wm_state.proofs.Respaced.{MayReplace, is_counted, space_elsewhere, space_here, spaces_replaced, versions_replaced}
use Rattle.wm_state.proofs.RowsStay.{LeavesRows, row_apart, rows_stay}
use Rattle.wm_state.proofs.Tests.{all_middle, all_swap}
use Rattle.wm_state.proofs.WorkedOn.{counted_put, first_change}
use Rattle.wm_locked.specs.Freezing.{Leaves, Renewed, renew_batch}
use Rattle.wm_locked.proofs.LockedRules.{MayCount}
use Rattle.wm_locked.proofs.RenewedStands.{FieldsStand-renewed, Stands-renewed}

-- ---- the record in the place of the other

-- the record of a workspace that is frozen so
abbrev pub frozen_record : FreezeMode → List ℕ → Space → Space
frozen_record mode writer a = record a { freeze = mode; writer = writer }

abbrev pub renewed : Parts → Counters → List Space → Space → List Space → Parts
renewed p new front b back = record p { counters = new ∷ []; spaces = front ++ b ∷ back }

pub record RenewedParts (ss : List Stored) (cs : List Change) (new : Counters) (a b : Space) : Type 0 where
  pub front : List Space
  pub back : List Space
  pub old : (parts_of ss).spaces ≡ front ++ a ∷ back
  pub is : parts_of (applied cs ss) ≡ renewed (parts_of ss) new front b back

pub parts-renewed : (ss : List Stored) (counters_id space_id : ℕ) (old new : Counters) (a b : Space) → Ascend ss → record_at ss counters_id ≡ Some (records.Counters old) → (parts_of ss).counters ≡ old ∷ []
    → record_at ss space_id ≡ Some (records.Space a) → RenewedParts ss (renew_batch counters_id new space_id b) new a b
parts-renewed ss counters_id space_id old new a b sorted counters one space = by_split (split_of first space_id (records.Space a) (found_still ss counters_id space_id old new (records.Space a) sorted counters space (λ c e. cc)))
  where
    first : List Stored
    first = set_at counters_id (Some (records.Counters new)) ss

    sorted_first : Ascend first
    sorted_first = Ascend-set counters_id (Some (records.Counters new)) ss sorted

    parts : parts_of first ≡ recounted (parts_of ss) new
    parts = counted ss counters_id old new sorted counters one

    by_split : Split first space_id (records.Space a) → RenewedParts ss (renew_batch counters_id new space_id b) new a b
    by_split s = record {
      front = kinds as_space s.front;
      back = kinds as_space s.back;
      old = sym (ap (λ (p : Parts). p.spaces) parts) ∙ ap (λ xs. (parts_of xs).spaces) s.is ∙ spaces-split s.front s.back space_id a;
      is =
          ap parts_of (ap (set_at space_id (Some (records.Space b))) s.is ∙ set-split s.front s.back space_id (records.Space a) (records.Space b) (subst (λ xs. Ascend xs) s.is sorted_first))
          ∙ parts-spaced s.front s.back space_id a b
          ∙ ap (λ xs. record (parts_of xs) { spaces = kinds as_space s.front ++ b ∷ kinds as_space s.back }) (sym s.is)
          ∙ ap (λ (p : Parts). record p { spaces = kinds as_space s.front ++ b ∷ kinds as_space s.back }) parts;
    }

-- ---- the rules

keep-frozen : (p : Parts) (old new : Counters) (front : List Space) (a : Space) (back : List Space) (mode : FreezeMode) (writer : List ℕ) → keep_rules p ≡ true → MayCount p old new 0 → is_short writer ≡ true → p.spaces ≡ front ++ a ∷ back
    → keep_rules (renewed p new front (frozen_record mode writer a) back) ≡ true
keep-frozen p old new front a back mode writer rules may short is = keeps_all q new refl may.counters
    rule.tables
    (spaces_replaced front back a b replace (and_from (is_short writer) _ short well) (ap are_spaces (sym is) ∙ rule.spaces))
    (ap (are_versions q) may.versions ∙ versions_replaced p q front back a b old.next_version replace is refl refl (ap (λ (c : Counters). are_versions p c.next_version) same ∙ rule.versions))
    (are_savepoints-kept p q old.work new.work worked spaces (KeepVersions-same p q refl) refl few savepoints)
    (ap (are_rows p) may.stamps ∙ ap (λ (c : Counters). are_rows p c.next_stamp) same ∙ rule.rows)
    (ap (are_pieces p) may.stamps ∙ ap (λ (c : Counters). are_pieces p c.next_stamp) same ∙ rule.pieces)
    (are_hists-kept p q old.next_stamp new.next_stamp (ap (nat_le old.next_stamp) may.stamps ∙ nat_le-itself old.next_stamp) (KeepTables-same p q refl) spaces (KeepRows-same p q refl) refl
    (ap (λ (c : Counters). are_hists p c.next_stamp) same ∙ rule.hists))
    (are_touches-kept p q (KeepTables-same p q refl) spaces refl rule.touches)
    (are_locks-kept p q old.work new.work worked (KeepTables-same p q refl) spaces refl (ap (λ (c : Counters). are_locks p c.work) same ∙ rule.locks))
    (are_marks-kept p q (KeepTables-same p q refl) spaces refl rule.marks)
    (are_turns-kept p q spaces refl (turned-swap p q front back a b refl refl is refl rule.turns) rule.turns)
  where
    b : Space
    b = frozen_record mode writer a

    q : Parts
    q = renewed p new front b back

    rule : Ruled p
    rule = ruled p rules

    same : old ≡ rule.counters
    same = same_counters p rule.counters old rule.one may.one

    replace : MayReplace a b
    replace = record { number = refl; name = refl; parent = refl; birth = refl; base = refl }

    worked : nat_le old.work new.work ≡ true
    worked = more old.work new.work may.room
      where
        more : (c d : ℕ) → c + 0 ≤ d → nat_le c d ≡ true
        more c d le = grind (arith, le)

    each : list_all (is_space (space_of (front ++ a ∷ back))) (front ++ a ∷ back) ≡ true
    each = each_space (front ++ a ∷ back) (ap are_spaces (sym is) ∙ rule.spaces)

    well : (nat_le 1 a.next_place && (nat_le 1 a.next_implicit && nat_le a.log_length (2 ^ 62))) ≡ true
    well = (and_parts _ (nat_le 1 a.next_place && (nat_le 1 a.next_implicit && nat_le a.log_length (2 ^ 62))) (all_middle (is_space (space_of (front ++ a ∷ back))) a front back each)).1

    spaces : KeepSpaces p q
    spaces = KeepSpaces-swap p q front back a b refl refl (nat_le-itself a.log_length) (nat_le-itself a.next_place) refl is refl

    savepoints : are_savepoints p old.work ≡ true
    savepoints = ap (λ (c : Counters). are_savepoints p c.work) same ∙ rule.savepoints

    few : list_all (has_few p.savepoints) q.spaces ≡ true
    few =
        let all : list_all (has_few p.savepoints) (front ++ a ∷ back) ≡ true = ap (list_all (has_few p.savepoints)) (sym is) ∙ (ruled_savepoints p old.work savepoints).few in
        all_swap (has_few p.savepoints) (has_few p.savepoints) a b front back (λ s h. h) (all_middle (has_few p.savepoints) a front back all) all

-- ---- what becomes of the records

leaves_frozen : (mode : FreezeMode) (writer : List ℕ) → Leaves (frozen mode writer)
leaves_frozen mode writer = record { number = λ w. refl; parent = λ w. refl; lists = λ w. refl; rebases = λ w. refl; place = λ w. refl; savepoints = λ w. refl; turns = λ w. refl; settled = λ w. refl }

renewed_of : (p : Parts) (new : Counters) (front : List Space) (a : Space) (back : List Space) (b : Space) → keep_rules p ≡ true → p.spaces ≡ front ++ a ∷ back → b.number ≡ a.number → b.name ≡ a.name → b.birth_version ≡ a.birth_version
    → b.base_version ≡ a.base_version → are_spaces (front ++ b ∷ back) ≡ true → Renewed p (renewed p new front b back) a.number a b
renewed_of p new front a back b rules is number name birth base well = record {
  old = ap (λ ss. space_of ss a.number) is ∙ space_here front back a a.number (ap are_spaces (sym is) ∙ (ruled p rules).spaces) refl;
  here = space_here front back b a.number well number;
  elsewhere = λ m away. space_elsewhere front back a b m (λ e. eqb-false m a.number away (sym e)) (λ e. eqb-false m a.number away (sym e ∙ number)) ∙ ap (λ ss. space_of ss m) (sym is);
  count = length-append front (b ∷ back) ∙ sym (length-append front (a ∷ back)) ∙ ap length (sym is);
  birth = birth;
  base = base;
  rest = refl;
}

-- ---- the draft

counts_moved : (s u : Durable) (m work : ℕ) (c : Counters) → u.next_stamp ≡ s.next_stamp → u.limit ≡ s.limit → CountsAs c s → (q : Parts) → q.counters ≡ moved c m work ∷ [] → CountersStand q (record u { last_moment = m; work = s.work + work })
counts_moved s u m work c stamps limits counts q one = record {
  counters = moved c m work;
  one = one;
  next_stamp = counts.next_stamp ∙ sym stamps;
  last_moment = refl;
  limit = counts.limit ∙ sym limits;
  work = ap (λ w. w + work) counts.work;
}

-- the batch makes of the records what the edit makes of each state
pub drafts_freeze : (rs : List Stored) (m work : ℕ) (a : Space) (mode : FreezeMode) (writer : List ℕ) (c : Counters) (counters_id space_id : ℕ) → keep_rules (parts_of rs) ≡ true → CanWork (parts_of rs) m work
    → is_short writer ≡ true → Ascend rs → record_at rs counters_id ≡ Some (records.Counters c) → (parts_of rs).counters ≡ c ∷ [] → record_at rs space_id ≡ Some (records.Space a)
    → DraftsBy work rs m (edits.Freeze a.number mode writer ∷ []) (renew_batch counters_id (moved c m work) space_id (frozen_record mode writer a))
drafts_freeze rs m work a mode writer c counters_id space_id rules can_work short sorted counters one space = record {
  keeps = keeps;
  once = once;
  stands = λ s st.
      subst (λ q. Stands q (after s)) (sym i.is)
      (Stands-renewed p q s (after s) a.number (frozen mode writer) a b (leaves_frozen mode writer) is_renewed refl fits st refl refl
      (counts_moved s (frozen_in a.number mode writer s) m work c refl refl (counts_as p s c st one) _ refl) rules_then);
  fields = λ s st.
      subst (λ q. FieldsStand q (after s)) (sym i.is)
      (FieldsStand-renewed p q s (after s) a.number (frozen mode writer) a b (leaves_frozen mode writer) is_renewed refl fits st refl
      (counts_moved s (frozen_in a.number mode writer s) m work c refl refl (counts_in p s c st.counters one) _ refl));
  rows = rows_stay rs batch (λ k r found. (row_apart rs counters_id k (records.Counters c) r counters refl found, (row_apart rs space_id k (records.Space a) r space refl found, tt)));
  kept = refl;
  counted = λ some. counted_put rs work counters_id c d batch sorted one once (first_change counters_id _ _) keeps refl;
  nothing = some_edit (edits.Freeze a.number mode writer) [] batch;
  few = λ forks. absurd (true≢false (sym forks));
  spared = λ n more one_append. absurd (no_append n more one_append);
  turned = λ left. ap (λ (z : Parts). z.turns) i.is;
}
  where
    p : Parts
    p = parts_of rs

    d : Counters
    d = moved c m work

    b : Space
    b = frozen_record mode writer a

    batch : List Change
    batch = renew_batch counters_id d space_id b

    i : RenewedParts rs batch d a b
    i = parts-renewed rs counters_id space_id c d a b sorted counters one space

    q : Parts
    q = renewed p d i.front b i.back

    after : Durable → Durable
    after s = drafted_by work m (edits.Freeze a.number mode writer ∷ []) s

    no_append : (n : ℕ) (more : List NewEntry) → edits.Freeze a.number mode writer ∷ [] ≡ edits.Append n more ∷ [] → ⊥
    no_append n more e = cc

    may : MayCount p c d 0
    may = record { one = one; counters = moved_well p m work c rules can_work one; stamps = refl; versions = refl; room = more c.work work }
      where
        more : (x y : ℕ) → x + 0 ≤ x + y
        more x y = omega arith

    rules_then : keep_rules q ≡ true
    rules_then = keep-frozen p c d i.front a i.back mode writer rules may short i.old

    keeps : keep_rules (parts_of (applied batch rs)) ≡ true
    keeps = ap keep_rules i.is ∙ rules_then

    is_renewed : Renewed p q a.number a b
    is_renewed = renewed_of p d i.front a i.back b rules i.old refl refl refl refl (ruled q rules_then).spaces

    fits : (w : Workspace) → fields_of a ≡ fields_in w → fields_of b ≡ fields_in (frozen mode writer w)
    fits w same = ap (λ (f : SpaceFields). record f { freeze = mode; writer = writer }) same

    kinds_apart : records.Counters c ≡ records.Space a → ⊥
    kinds_apart e = cc

    apart : counters_id ≢ space_id
    apart e = kinds_apart (same_Some _ _ (sym counters ∙ ap (record_at rs) e ∙ space))

    once : AreChanges batch
    once = two_changes (put counters_id (records.Counters d)) (put space_id (records.Space b)) apart
