-- What the history of a table shows by the records of a log is what it shows by the log.
use Rattle.std.proofs.Common.{◌≡◌, ◌≢◌, ℕ, zero, suc, ◌+◌, ◌-◌, ◌<◌, ◌≤◌, ◌==◌, Bool, true, false, cond, not, ◌&&◌, List, [], ◌∷◌, map, Option, Some, None, is_none, refl, sym, ap, subst, ◌∙◌, ◌⊎◌, inl, inr, arith}
use Rattle.std.proofs.lemmas.Bool.{cases_eq, eq-eqb, ne_eqb, eqb-true, and_parts, not-true, or_parts, true≢false}
use Rattle.std.proofs.lemmas.Option.{same_Some, none-some}
use Rattle.std.specs.Bool.{then_some}
use Rattle.std.specs.List.{filter, find, list_any, slice_get}
use Rattle.std.specs.Option.{option_and_then, option_map, option_map_or}
use Rattle.wm_base.specs.declared.row.Row.{Row}
use Rattle.wm_base.specs.declared.value.Value.{Value}
use Rattle.wm_graph.specs.Parts.{Parts, space_of, table_of}
use Rattle.wm_graph.specs.Rules.{differ, same_position}
use Rattle.wm_spec.specs.Lists.{Entry}
use Rattle.wm_spec.specs.declared.record.hist.Hist.{Hist}
use Rattle.wm_spec.specs.declared.record.space.Space.{Space}
use Rattle.wm_spec.specs.declared.record.table.Table.{Table}
use Rattle.wm_state.specs.State.{Durable, Workspace, log_of, workspace_of}
use Rattle.wm_state.specs.Standing.{HasRow, Logged, SpaceFields, Stands, fields_in, fields_of, has_history, hist_at, logged, logged_as}
use Rattle.wm_state.proofs.Apart.{ruled}
use Rattle.wm_state.proofs.Logging.{all_at, log_of-found}
use Rattle.wm_state.proofs.Ready.{tables_found}
use Rattle.wm_state.proofs.Spaces.{SpaceIs, space_is}
use Rattle.wm_view_rows.specs.Conflicts.{values_with}
use Rattle.wm_view_rows.specs.History.{AreLogged, Follow, IsHistoryView, event_by, event_of, history_view}
use Rattle.wm_view_rows.specs.Rows.{Event, history_rows}

-- the entry at a position
abbrev at : ℕ → List Hist → Option Hist
at position xs = find (λ (x : Hist). x.position == position) xs

-- the entry at a position of a log, where it is on a table
abbrev hist_on : List Hist → ℕ → ℕ → ℕ → Option Hist
hist_on xs n table position = find (λ (x : Hist). (x.space == n) && ((x.cells.table == table) && (x.position == position))) xs

abbrev hist_picked : ℕ → Option Hist → Option Hist
hist_picked table found = option_and_then (λ (x : Hist). then_some (x.cells.table == table) x) found

abbrev picked : ℕ → Option Entry → Option Entry
picked table found = option_and_then (λ (e : Entry). then_some (e.table == table) e) found

-- ---- one record at a position of a log

apart_from : (x y : Hist) (n position : ℕ) → same_position x y ≡ false → x.space ≡ n → x.position ≡ position → ((y.space == n) && (y.position == position)) ≡ false
apart_from x y n position apart space place = by_tests (y.space == n) refl (y.position == position) refl
  where
    by_tests : (s : Bool) → (y.space == n) ≡ s → (q : Bool) → (y.position == position) ≡ q → (s && q) ≡ false
    by_tests true here true there =
        sym (ap (λ b. b && (x.position == y.position)) (eq-eqb x.space y.space (space ∙ sym (eqb-true y.space n here))) ∙ eq-eqb x.position y.position (place ∙ sym (eqb-true y.position position there))) ∙ apart
    by_tests true here false there = refl
    by_tests false here q there = refl

none_beside : (n position : ℕ) (x : Hist) (xs : List Hist) → list_any (same_position x) xs ≡ false → x.space ≡ n → x.position ≡ position → hist_at xs n position ≡ None
none_beside n position x [] apart space place = refl
none_beside n position x (y ∷ ys) apart space place =
    let h = or_parts (same_position x y) (list_any (same_position x) ys) apart in
    ap (λ b. cond b (Some y) (hist_at ys n position)) (apart_from x y n position h.0 space place) ∙ none_beside n position x ys h.1 space place

-- that of the table is it, where it is of the table
one_on : (n table position : ℕ) (xs : List Hist) → differ same_position xs ≡ true → hist_on xs n table position ≡ hist_picked table (hist_at xs n position)
one_on n table position [] differs = refl
one_on n table position (x ∷ xs) differs =
    let h = and_parts (not (list_any (same_position x) xs)) (differ same_position xs) differs in
    by_tests (x.space == n) refl (x.position == position) refl (x.cells.table == table) refl (not-true _ h.0) (one_on n table position xs h.1)
  where
    by_tests : (s : Bool) → (x.space == n) ≡ s → (q : Bool) → (x.position == position) ≡ q → (b : Bool) → (x.cells.table == table) ≡ b → list_any (same_position x) xs ≡ false
        → hist_on xs n table position ≡ hist_picked table (hist_at xs n position)
        → cond (s && (b && q)) (Some x) (hist_on xs n table position) ≡ hist_picked table (cond (s && q) (Some x) (hist_at xs n position))
    by_tests true space true place true same apart rest = sym (ap (λ b. then_some b x) same)
    by_tests true space true place false other apart rest =
        rest
        ∙ ap (hist_picked table) (none_beside n position x xs apart (eqb-true x.space n space) (eqb-true x.position position place))
        ∙ sym (ap (λ b. then_some b x) other)
    by_tests true space false place true same apart rest = rest
    by_tests true space false place false other apart rest = rest
    by_tests false space q place b is apart rest = rest

-- ---- what is told of a record and of its entry

-- what is told of a record, by what it has of the entry
abbrev event_with : Parts → Logged → Event
event_with p l = record {
  key = l.cells.key;
  from = l.cells.from;
  till = l.cells.till;
  row = cond l.gone None (values_with p l.stamp);
  kind = l.kind;
  moment = l.moment;
  user = l.user;
}

same_row : (p : Parts) (e : Entry) → HasRow p e → (o : Option Row) → e.row ≡ o → cond (is_none o) None (values_with p e.stamp) ≡ option_map (λ (row : Row). row.values) o
same_row p e has None is = refl
same_row p e has (Some row) is = has row is

same_event : (p : Parts) (x : Hist) (e : Entry) → logged x ≡ logged_as e → HasRow p e → event_by p x ≡ event_of e
same_event p x e same has = ap (event_with p) same ∙ ap with_row (same_row p e has e.row refl)
  where
    with_row : Option (List Value) → Event
    with_row row = record { key = e.key; from = e.from; till = e.till; row = row; kind = e.kind; moment = e.moment; user = e.user }

-- of each position a table with history has the same, by a function of the record and one of its entry
same_at : {B : Type 0} (F : Hist → B) (G : Entry → B) (tables : List Table) (table : ℕ) (o : Option Hist) (g : Option Entry) → has_history tables table ≡ true
    → option_map logged o ≡ option_and_then (λ (e : Entry). then_some (has_history tables e.table) (logged_as e)) g
    → ((x : Hist) (e : Entry) → g ≡ Some e → has_history tables e.table ≡ true → logged x ≡ logged_as e → F x ≡ G e) → option_map F (hist_picked table o) ≡ option_map G (picked table g)
same_at F G tables table None None history same alike = refl
same_at F G tables table (Some x) None history same alike = cc
same_at F G tables table o (Some e) history same alike = by_tests (has_history tables e.table) refl (e.table == table) refl o same
  where
    by_tests : (h : Bool) → has_history tables e.table ≡ h → (b : Bool) → (e.table == table) ≡ b → (o : Option Hist) → option_map logged o ≡ then_some h (logged_as e)
        → option_map F (hist_picked table o) ≡ option_map G (then_some b e)
    by_tests true kept b is None same = cc
    by_tests false kept true is None same = absurd (true≢false (sym history ∙ ap (has_history tables) (sym (eqb-true e.table table is)) ∙ kept))
    by_tests false kept false is None same = refl
    by_tests false kept b is (Some x) same = cc
    by_tests true kept b is (Some x) same = ap (λ c. option_map F (then_some c x)) (ap (λ n. n == table) (ap (λ (l : Logged). l.cells.table) equal) ∙ is) ∙ told b
      where
        equal : logged x ≡ logged_as e
        equal = same_Some (logged x) (logged_as e) same

        told : (b : Bool) → option_map F (then_some b x) ≡ option_map G (then_some b e)
        told true = ap Some (alike x e refl kept equal)
        told false = refl

-- ---- records that stand one behind another

-- from a position on
abbrev AscendFrom : ℕ → List Hist → Type 0
AscendFrom k [] = Unit {0}
AscendFrom k (x ∷ xs) = (k ≤ x.position) × AscendFrom (x.position + 1) xs

ascend_behind : (x : Hist) (xs : List Hist) → Follow (x ∷ xs) → AscendFrom (x.position + 1) xs
ascend_behind x [] follow = tt
ascend_behind x (y ∷ ys) follow = (let lt = follow.0 in omega (arith, lt), ascend_behind y ys follow.1)

ascend_all : (xs : List Hist) → Follow xs → AscendFrom 0 xs
ascend_all [] follow = tt
ascend_all (x ∷ xs) follow = (omega arith, ascend_behind x xs follow)

none_before : (k q : ℕ) (xs : List Hist) → AscendFrom k xs → q < k → at q xs ≡ None
none_before k q [] ascend less = refl
none_before k q (x ∷ xs) ascend less =
    ap (λ b. cond b (Some x) (at q xs)) (ne_eqb x.position q (λ same. let le = ascend.0 in omega (arith, le, less, same)))
    ∙ none_before (x.position + 1) q xs ascend.1 (let le = ascend.0 in omega (arith, le, less))

-- the first stands at the position, or none does
data First (k : ℕ) : List Hist → Type 0 where
  Here : (x : Hist) (xs : List Hist) → x.position ≡ k → AscendFrom (k + 1) xs → First k (x ∷ xs)
  Behind : (xs : List Hist) → at k xs ≡ None → AscendFrom (k + 1) xs → First k xs

first_of : (k : ℕ) (xs : List Hist) → AscendFrom k xs → First k xs
first_of k [] ascend = Behind [] refl tt
first_of k (x ∷ xs) ascend = by_position (cases_eq x.position k)
  where
    by_position : (x.position ≡ k) ⊎ (x.position ≢ k) → First k (x ∷ xs)
    by_position (inl same) = Here x xs same (subst (λ n. AscendFrom (n + 1) xs) same ascend.1)
    by_position (inr apart) =
        let more : k + 1 ≤ x.position = (let le = ascend.0 in grind (arith, le, apart)) in
        Behind (x ∷ xs) (ap (λ b. cond b (Some x) (at k xs)) (ne_eqb x.position k apart) ∙ none_before (x.position + 1) k xs ascend.1 (omega (arith, more))) (more, ascend.1)

-- at each position, counted from one on, a function of the record there gives what one of the entry does
abbrev Same : {B : Type 0} → (Hist → B) → (Entry → B) → ℕ → ℕ → List Hist → List Entry → Type 0
Same F G table k xs es = (i : ℕ) → option_map F (at (k + i) xs) ≡ option_map G (picked table (slice_get es i))

none_left : {B : Type 0} (F : Hist → B) (G : Entry → B) (table k : ℕ) (xs : List Hist) → AscendFrom k xs → Same F G table k xs [] → xs ≡ []
none_left F G table k [] ascend same = refl
none_left F G table k (x ∷ xs) ascend same = absurd (none-some (F x) (sym (sym (ap (λ b. option_map F (cond b (Some x) (at (k + (x.position - k)) xs))) here) ∙ same (x.position - k))))
  where
    here : (x.position == (k + (x.position - k))) ≡ true
    here = eq-eqb x.position (k + (x.position - k)) (let le = ascend.0 in omega (arith, le))

-- so it is of all of them, in their order
all_same : {B : Type 0} (F : Hist → B) (G : Entry → B) (table k : ℕ) (es : List Entry) (xs : List Hist) → AscendFrom k xs → Same F G table k xs es → map F xs ≡ map G (filter (λ (e : Entry). e.table == table) es)
all_same F G table k [] xs ascend same = ap (map F) (none_left F G table k xs ascend same)
all_same {B = B} F G table k (e ∷ es) xs ascend same = by_first (all_same F G table (k + 1) es) xs (first_of k xs ascend) same
  where
    Rest : Type 0
    Rest = (ys : List Hist) → AscendFrom (k + 1) ys → Same F G table (k + 1) ys es → map F ys ≡ map G (filter (λ (d : Entry). d.table == table) es)

    -- the positions behind the first
    shifted : (xs ys : List Hist) → ((i : ℕ) → at (k + suc i) xs ≡ at ((k + 1) + i) ys) → Same F G table k xs (e ∷ es) → Same F G table (k + 1) ys es
    shifted xs ys there same i = sym (ap (option_map F) (there i)) ∙ same (suc i)

    next : (i : ℕ) → k + suc i ≡ (k + 1) + i
    next i = omega arith

    first : (xs : List Hist) → Same F G table k xs (e ∷ es) → option_map F (at k xs) ≡ option_map G (then_some (e.table == table) e)
    first xs same = ap (λ q. option_map F (at q xs)) (start) ∙ same zero
      where
        start : k ≡ k + zero
        start = omega arith

    by_first : Rest → (xs : List Hist) → First k xs → Same F G table k xs (e ∷ es) → map F xs ≡ map G (filter (λ (d : Entry). d.table == table) (e ∷ es))
    by_first rest xs (Here x ys here ascend) same =
        by_table (e.table == table) (sym (ap (λ b. option_map F (cond b (Some x) (at k ys))) (eq-eqb x.position k here)) ∙ first (x ∷ ys) same)
        (rest ys ascend (shifted (x ∷ ys) ys (λ i. ap (λ q. at q (x ∷ ys)) (next i) ∙ ap (λ b. cond b (Some x) (at ((k + 1) + i) ys)) (ne_eqb x.position ((k + 1) + i) (λ other. omega (arith, here, other)))) same))
      where
        by_table : (b : Bool) → Some (F x) ≡ option_map G (then_some b e) → map F ys ≡ map G (filter (λ (d : Entry). d.table == table) es)
            → F x ∷ map F ys ≡ map G (cond b (e ∷ filter (λ (d : Entry). d.table == table) es) (filter (λ (d : Entry). d.table == table) es))
        by_table true told rest = ap (λ (d : B). d ∷ map F ys) (same_Some (F x) (G e) told) ∙ ap (λ (ds : List B). G e ∷ ds) rest
        by_table false told rest = absurd (none-some (F x) (sym told))
    by_first rest xs (Behind ys none ascend) same =
        by_table (e.table == table) (sym (ap (option_map F) none) ∙ first ys same) (rest ys ascend (shifted ys ys (λ i. ap (λ q. at q ys) (next i)) same))
      where
        nothing : Option B
        nothing = None

        by_table : (b : Bool) → nothing ≡ option_map G (then_some b e) → map F ys ≡ map G (filter (λ (d : Entry). d.table == table) es)
            → map F ys ≡ map G (cond b (e ∷ filter (λ (d : Entry). d.table == table) es) (filter (λ (d : Entry). d.table == table) es))
        by_table true told rest = absurd (none-some (G e) (sym (sym told)))
        by_table false told rest = rest

-- ---- the records of a log

-- a table that keeps its history by its record does so in the state
pub history_kept : (p : Parts) (d : Durable) (t : Table) → Stands p d → table_of p.tables t.number ≡ Some t → t.history ≡ true → has_history d.tables t.number ≡ true
history_kept p d t st there history = ap (λ (o : Option Table). option_map_or (λ (u : Table). u.history) o false) (tables_found p d st.tables t.number ∙ there) ∙ history

-- a function of a record gives of the records of a log on a table with history what one of an entry gives of its entries there
logged_alike : {B : Type 0} (F : Hist → B) (G : Entry → B) (p : Parts) (d : Durable) (n : ℕ) (w : Workspace) (a : Space) (t : Table) (xs : List Hist) → Stands p d → workspace_of d.spaces n ≡ Some w → space_of p.spaces n ≡ Some a
    → table_of p.tables t.number ≡ Some t → t.history ≡ true → AreLogged p a.number t.number xs
    → ((x : Hist) (e : Entry) (i : ℕ) → slice_get (log_of d.spaces n) i ≡ Some e → has_history d.tables e.table ≡ true → logged x ≡ logged_as e → F x ≡ G e)
    → map F xs ≡ map G (filter (λ (e : Entry). e.table == t.number) w.lists.log)
logged_alike F G p d n w a t xs st found recorded there history are_logged alike = all_same F G t.number 0 w.lists.log xs (ascend_all xs are_logged.follow) same
  where
    space : SpaceIs p d n a
    space = space_is p d n a st recorded

    differs : differ same_position p.hists ≡ true
    differs = (and_parts (differ same_position p.hists) _ (ruled p st.rules).hists).0

    same : Same F G t.number 0 xs w.lists.log
    same i =
        ap (option_map F) (ap (λ q. at q xs) (omega arith) ∙ are_logged.same i ∙ ap (λ m. hist_on p.hists m t.number i) space.is.record_number ∙ one_on n t.number i p.hists differs)
        ∙ same_at F G d.tables t.number (hist_at p.hists n i) (slice_get (log_of d.spaces n) i) (history_kept p d t st there history) (st.hists.same n i) (λ x e is_there. alike x e i is_there)
        ∙ ap (λ (es : List Entry). option_map G (picked t.number (slice_get es i))) (log_of-found d.spaces n w found)

-- the records have what the entries have
pub logged_same : (p : Parts) (d : Durable) (n : ℕ) (w : Workspace) (a : Space) (t : Table) (xs : List Hist) → Stands p d → workspace_of d.spaces n ≡ Some w → space_of p.spaces n ≡ Some a → table_of p.tables t.number ≡ Some t → t.history ≡ true
    → AreLogged p a.number t.number xs → map logged xs ≡ map logged_as (filter (λ (e : Entry). e.table == t.number) w.lists.log)
logged_same p d n w a t xs st found recorded there history are_logged = logged_alike logged logged_as p d n w a t xs st found recorded there history are_logged (λ x e i is_there kept same. same)

-- ---- the view

-- by the records of a log a table with history shows what it shows by the log
pub history_view_is : (p : Parts) (d : Durable) (n : ℕ) (w : Workspace) (a : Space) (t : Table) (rows : List Row) → Stands p d → workspace_of d.spaces n ≡ Some w → space_of p.spaces n ≡ Some a → table_of p.tables t.number ≡ Some t → t.history ≡ true
    → IsHistoryView p a t rows → rows ≡ history_view w t
history_view_is p d n w a t rows st found recorded there history view =
    view.are
    ∙ ap (λ (f : SpaceFields). history_rows f.name t (map (event_by p) view.logged)) fields
    ∙ ap (history_rows w.name t) (logged_alike (event_by p) event_of p d n w a t view.logged st found recorded there history view.are_logged told)
  where
    space : SpaceIs p d n a
    space = space_is p d n a st recorded

    fields : fields_of a ≡ fields_in w
    fields = space.is.fields ∙ ap fields_in (same_Some space.workspace w (sym space.is.found ∙ found))

    told : (x : Hist) (e : Entry) (i : ℕ) → slice_get (log_of d.spaces n) i ≡ Some e → has_history d.tables e.table ≡ true → logged x ≡ logged_as e → event_by p x ≡ event_of e
    told x e i is_there kept same = same_event p x e same (all_at (λ (y : Entry). has_history d.tables y.table ≡ true → HasRow p y) (log_of d.spaces n) i e (st.rows.logs n) is_there kept)
