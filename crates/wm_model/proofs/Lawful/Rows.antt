-- No text of a row that a lawful state shows is empty, and none of a row that a line writes.
use Rattle.std.proofs.Common.{◌≡◌, ℕ, ◌+◌, ◌&&◌, Bool, true, false, cond, List, [], ◌∷◌, map, Option, Some, None, option_map, refl, sym, ap, ◌∙◌}
use Rattle.std.proofs.lemmas.Bool.{and_from, and_parts}
use Rattle.std.proofs.lemmas.Option.{same_Some}
use Rattle.std.specs.List.{list_all, filter_map, cons_option}
use Rattle.std.specs.Bool.{then_some}
use Rattle.std.specs.Option.{option_map_or, option_or, option_and_then}
use Rattle.wm_base.specs.Period.{Span, overlaps}
use Rattle.wm_syntax.specs.Trees.{Cond, Set}
use Rattle.wm_base.specs.declared.row.Row.{Row}
use Rattle.wm_base.specs.declared.value.Value.{Value}
use Rattle.wm_base.specs.declared.value.Value.TheVariants as values
use Rattle.wm_dml.specs.Changing.{chosen, declared_values, gone, meets, own_columns, replaced, replacing, row_before, row_key, updated_row, updated_rows}
use Rattle.wm_dml.specs.Moving.{move_of, moved_row, moves_of, moving}
use Rattle.wm_dml.specs.Standing.{writes_filled}
use Rattle.wm_dml.specs.declared.change.RowChange.{RowChange}
use Rattle.wm_dml.specs.declared.moving.Move.{Move}
use Rattle.wm_dml.proofs.Moves.{written_pass}
use Rattle.wm_dml.proofs.Replaced.{new_filled}
use Rattle.wm_making.specs.Rows.{is_filled}
use Rattle.wm_spec.specs.Lists.{Cell, Entry, Told, covers, told, told_of}
use Rattle.wm_spec.specs.Stretches.{Stretch, rows}
use Rattle.wm_spec.specs.declared.record.table.Table.{Table}
use Rattle.wm_state.specs.Editing.{row_value}
use Rattle.wm_state.specs.Listing.{row_on, row_shown, seen_row, span_on, with_span}
use Rattle.wm_state.specs.State.{Durable, Workspace, content, workspace_of}
use Rattle.wm_state.proofs.Tests.{all_filter, all_push}
use Rattle.wm_model.specs.Entered.{entries_from}
use Rattle.wm_model.specs.Lawful.{Each, IsSound, Lawful, is_full_row}
use Rattle.wm_model.specs.Step.{rows_in}
use Rattle.wm_model.proofs.Filled.{declared_filled, filled_key}
use Rattle.wm_model.proofs.Lawful.Entries.{Written, each_append, each_if}

-- ---- rows that are read

abbrev pub Full : Entry → Type 0
Full e = option_map_or is_full_row e.row true ≡ true

-- in what a workspace holds no text is empty
pub content_full : {staged : List Entry} (d : Durable) (n : ℕ) (w : Workspace) → Lawful d staged → workspace_of d.spaces n ≡ Some w → Each Full (content w)
content_full d n w l found =
    let h = l.entries.each n w found in
    each_append Full w.lists.base w.lists.own
    (each_if (IsSound l.entries.tells d.next_stamp) Full (λ e s. s.filled) w.lists.base h.base)
    (each_if (IsSound l.entries.tells d.next_stamp) Full (λ e s. s.filled) w.lists.own h.own)

abbrev tells_full : Option Told → Bool
tells_full o = option_map_or (λ (t : Told). option_map_or is_full_row t.row true) o true

told_full : (es : List Entry) (c : Cell) → Each Full es → tells_full (told es c) ≡ true
told_full [] c f = refl
told_full (e ∷ es) c f = by_told (told es c) (covers e c) (told_full es c f.1)
  where
    by_told : (o : Option Told) (b : Bool) → tells_full o ≡ true → tells_full (option_or o (then_some b (told_of e))) ≡ true
    by_told (Some t) b rest = rest
    by_told None true rest = f.0
    by_told None false rest = refl

abbrev shows_full : Option Row → Bool
shows_full o = option_map_or is_full_row o true

row_full : (o : Option Told) → tells_full o ≡ true → shows_full (option_and_then (λ (t : Told). t.row) o) ≡ true
row_full None h = refl
row_full (Some t) h = h

seen_full : (valid : Bool) (period : Span) (s : Stretch) (o : Option Row) → shows_full o ≡ true → shows_full (seen_row valid period s o) ≡ true
seen_full false period s o h = h
seen_full true period s o h = by_overlap (overlaps (span_on s) period) o h
  where
    by_overlap : (b : Bool) (o : Option Row) → shows_full o ≡ true → shows_full (cond b (option_map (with_span (span_on s)) o) None) ≡ true
    by_overlap false o h = refl
    by_overlap true None h = refl
    by_overlap true (Some r) h = all_push is_filled r.values (values.Span (span_on s)) h refl

mapped_full : {A : Type 0} (f : A → Option Row) → ((x : A) → shows_full (f x) ≡ true) → (xs : List A) → list_all is_full_row (filter_map f xs) ≡ true
mapped_full f each [] = refl
mapped_full f each (x ∷ xs) = by_row (f x) (each x) (mapped_full f each xs)
  where
    by_row : (o : Option Row) → shows_full o ≡ true → list_all is_full_row (filter_map f xs) ≡ true → list_all is_full_row (cons_option o (filter_map f xs)) ≡ true
    by_row None h rest = rest
    by_row (Some r) h rest = and_from (is_full_row r) (list_all is_full_row (filter_map f xs)) h rest

pub rows_full : (period : Span) (es : List Entry) (table : Table) → Each Full es → list_all is_full_row (rows_in period es table) ≡ true
rows_full period es table full = mapped_full (row_shown es table.number table.valid period) each (rows es table.number)
  where
    each : (x : List Value × Stretch) → shows_full (row_shown es table.number table.valid period x) ≡ true
    each x =
        let c : Cell = record { table = table.number; key = x.0; time = x.1.from } in
        seen_full table.valid period x.1 (row_on es table.number x) (row_full (told es c) (told_full es c full))

pub chosen_full : (table : Table) (condition : Option Cond) (rows : List Row) → list_all is_full_row rows ≡ true → list_all is_full_row (chosen table condition rows) ≡ true
chosen_full table condition rows h = all_filter is_full_row (meets condition (own_columns table)) rows h

-- ---- rows that are written

-- no text is empty, neither of the key nor of the row, where there is one
abbrev pub is_full_change : RowChange → Bool
is_full_change x = list_all is_filled x.key && writes_filled x

abbrev pub are_full : List (List Value) → Bool
are_full rows = list_all (list_all is_filled) rows

pub updated_full : (table : Table) (sets : List Set) (rows : List Row) (new : List (List Value)) → list_all is_full_row rows ≡ true → updated_rows table sets rows ≡ Some new → are_full new ≡ true
updated_full table sets [] new full made = ap are_full (sym (same_Some [] new made))
updated_full table sets (r ∷ rs) new full made =
    by_parts (updated_row table sets r) (updated_rows table sets rs) refl refl made (and_parts (is_full_row r) (list_all is_full_row rs) full) (updated_full table sets rs)
  where
    by_parts : (o : Option (List Value)) (os : Option (List (List Value))) → updated_row table sets r ≡ o → updated_rows table sets rs ≡ os → row_before o os ≡ Some new → (is_full_row r ≡ true) × (list_all is_full_row rs ≡ true)
        → ((ws : List (List Value)) → list_all is_full_row rs ≡ true → updated_rows table sets rs ≡ Some ws → are_full ws ≡ true) → are_full new ≡ true
    by_parts None os one others e h rest = absurd (cc)
    by_parts (Some w) None one others e h rest = absurd (cc)
    by_parts (Some w) (Some ws) one others e h rest =
        ap are_full (sym (same_Some (w ∷ ws) new e))
        ∙ and_from (list_all is_filled w) (are_full ws) (new_filled (own_columns table) sets r table.columns r.values w h.0 one) (rest ws h.1 others)

-- a row under its key
pub keyed_row : (table : Table) (row : List Value) → list_all is_filled row ≡ true → (list_all is_filled (row_key table row) && list_all is_filled row) ≡ true
keyed_row table row full = and_from (list_all is_filled (row_key table row)) (list_all is_filled row) (filled_key table row full) full

pub replacing_full : (table : Table) (period : Span) (rows : List Row) (new : List (List Value)) → are_full new ≡ true → list_all is_full_change (replacing table period rows new) ≡ true
replacing_full table period [] new full = refl
replacing_full table period (r ∷ rs) [] full = refl
replacing_full table period (r ∷ rs) (v ∷ vs) full =
    let h = and_parts (list_all is_filled v) (are_full vs) full in
    and_from (is_full_change (replaced table period r v)) (list_all is_full_change (replacing table period rs vs)) (keyed_row table v h.0) (replacing_full table period rs vs h.1)

moves_full : (table : Table) (sets : List Set) (rows : List Row) (new : List (List Value)) → are_full new ≡ true → list_all (λ (m : Move). is_full_change (moved_row m)) (moves_of table sets rows new) ≡ true
moves_full table sets [] new full = refl
moves_full table sets (r ∷ rs) [] full = refl
moves_full table sets (r ∷ rs) (v ∷ vs) full =
    let h = and_parts (list_all is_filled v) (are_full vs) full in
    and_from (is_full_change (moved_row (move_of table sets r v))) (list_all (λ (m : Move). is_full_change (moved_row m)) (moves_of table sets rs vs)) (keyed_row table v h.0) (moves_full table sets rs vs h.1)

pub moving_full : (table : Table) (sets : List Set) (rows : List Row) (new : List (List Value)) → are_full new ≡ true → list_all is_full_change (moving (moves_of table sets rows new)) ≡ true
moving_full table sets rows new full =
    written_pass is_full_change (moves_of table sets rows new) (moves_full table sets rows new full)
    (λ m part e. and_from (list_all is_filled m.key) true (and_parts (list_all is_filled m.key) (list_all is_filled m.row) e).0 refl)

pub gone_full : (table : Table) (period : Span) (rows : List Row) → list_all is_full_row rows ≡ true → list_all is_full_change (map (gone table period) rows) ≡ true
gone_full table period [] full = refl
gone_full table period (r ∷ rs) full =
    let h = and_parts (is_full_row r) (list_all is_full_row rs) full in
    let key = filled_key table (declared_values table r.values) (declared_filled table r.values h.0) in
    and_from (is_full_change (gone table period r)) (list_all is_full_change (map (gone table period) rs)) (and_from (list_all is_filled (row_key table (declared_values table r.values))) true key refl)
    (gone_full table period rs h.1)

-- changes in which no text is empty, as entries
pub entries_written : (next moment : ℕ) (user : List ℕ) (table : Table) (changes : List RowChange) → list_all is_full_change changes ≡ true → Written next (entries_from next moment user table changes)
entries_written next moment user table [] full = tt
entries_written next moment user table (x ∷ xs) full =
    let h = and_parts (is_full_change x) (list_all is_full_change xs) full in
    let one = and_parts (list_all is_filled x.key) (writes_filled x) h.0 in
    (refl, by_row x.row one.1, one.0, entries_written (next + 1) moment user table xs h.1)
  where
    by_row : (o : Option (List Value)) → option_map_or (list_all is_filled) o true ≡ true → option_map_or is_full_row (option_map row_value o) true ≡ true
    by_row None h = refl
    by_row (Some row) h = h
