-- The rows that UPDATE and DELETE write are in order.
use Rattle.std.proofs.Common.{◌≡◌, ℕ, suc, true, false, nat_lt, List, [], ◌∷◌, length, map, refl, sym, ap, ◌∙◌, arith}
use Rattle.std.proofs.lemmas.Bool.{and_from, and_parts}
use Rattle.std.proofs.Math.Bool.{and-false}
use Rattle.std.specs.Prelude.{Option, Some, None, ◌&&◌, option_map}
use Rattle.std.specs.List.{list_all}
use Rattle.std.specs.Ordering.{is_eq}
use Rattle.wm_base.proofs.Plain.{none_mapped, option_or_parts}
use Rattle.wm_base.specs.Orders.{key_order-itself}
use Rattle.wm_base.specs.Period.{Span, shared}
use Rattle.wm_syntax.specs.Trees.{Cond, Set}
use Rattle.wm_base.specs.declared.row.Row.{Row}
use Rattle.wm_base.specs.declared.value.Value.{Value}
use Rattle.wm_graph.specs.Rules.{is_table, has_key, key_of, is_row_of, is_key_of, is_key, are_typed}
use Rattle.wm_making.specs.Rows.{first_column, lacks_value, heavy_part, is_filled, null_in, too_heavy}
use Rattle.wm_making.proofs.Written.{nothing_found}
use Rattle.wm_spec.specs.Expressions.{has_no_empty_period}
use Rattle.wm_spec.specs.declared.record.column.TableColumn.{TableColumn}
use Rattle.wm_spec.specs.declared.record.table.Table.{Table}
use Rattle.wm_typing.specs.Changing.{key_set, update_fault}
use Rattle.wm_dml.specs.Changing.{own_columns, declared_values, row_period, row_key, gone, sets_period, updated_row, row_before, updated_rows, first_some, rows_fault, replacing}
use Rattle.wm_dml.specs.Standing.{stands_in, is_shown, all_stand, keys_of, periods_of, is_change, writes_filled, change_keys, change_periods, MayReplace}
use Rattle.wm_dml.proofs.Lasting.{sets_last}
use Rattle.wm_dml.proofs.Refused.{EachFits, update_parts}
use Rattle.wm_dml.proofs.Replaced.{row_replaces}
use Rattle.wm_dml.proofs.ShownRows.{shown_parts}

-- ---- DELETE

pub gone_fit : (t : Table) (within : Span) (rows : List Row) → all_stand t rows ≡ true → list_all (is_change t) (map (gone t within) rows) ≡ true
gone_fit t within [] all = refl
gone_fit t within (row ∷ rows) all =
    let parts = and_parts (is_shown t row.values) (all_stand t rows) all in
    and_from _ _ (and_from _ _ (shown_parts t row.values parts.0).1 refl) (gone_fit t within rows parts.1)

pub gone_keys : (t : Table) (within : Span) (rows : List Row) → change_keys (map (gone t within) rows) ≡ keys_of t rows
gone_keys t within [] = refl
gone_keys t within (row ∷ rows) = ap (λ keys. row_key t (declared_values t row.values) ∷ keys) (gone_keys t within rows)

pub gone_periods : (t : Table) (within : Span) (rows : List Row) → change_periods (map (gone t within) rows) ≡ periods_of t within rows
gone_periods t within [] = refl
gone_periods t within (row ∷ rows) = ap (λ periods. shared (row_period t row) within ∷ periods) (gone_periods t within rows)

-- ---- UPDATE

-- no values are no key
none_typed : (columns : List TableColumn) (places : List ℕ) → (nat_lt 0 (length places) && are_typed columns places []) ≡ false
none_typed columns [] = refl
none_typed columns (place ∷ places) = and-false (nat_lt 0 (length (place ∷ places)))

-- a key of the table's is that of the row
pub same_key : (t : Table) (row : List Value) → is_key_of (row_key t row) t ≡ true → is_key (row_key t row) (key_of t row) ≡ true
same_key t row fits = by_key (key_of t row) refl
  where
    by_key : (o : Option (List Value)) → key_of t row ≡ o → is_key (row_key t row) (key_of t row) ≡ true
    by_key None is =
        let e : is_key_of (row_key t row) t ≡ false = rw is (none_typed t.columns t.key_columns) in
        absurd (let f : true ≡ false = sym fits ∙ e in cc)
    by_key (Some k) is = rw is (ap is_eq (key_order-itself k))

pub replaced_fit : (t : Table) (within : Span) (olds : List Row) (news : List (List Value)) → list_all (stands_in t) news ≡ true → list_all (is_change t) (replacing t within olds news) ≡ true
replaced_fit t within [] news all = refl
replaced_fit t within (old ∷ olds) [] all = refl
replaced_fit t within (old ∷ olds) (row ∷ news) all =
    let parts = and_parts (stands_in t row) (list_all (stands_in t) news) all in
    let one = and_parts (is_row_of row t) (is_key_of (row_key t row) t && list_all is_filled row) parts.0 in
    let key = (and_parts (is_key_of (row_key t row) t) (list_all is_filled row) one.1).0 in
    and_from _ _ (and_from _ _ key (and_from _ _ one.0 (same_key t row key))) (replaced_fit t within olds news parts.1)

pub replaced_filled : (t : Table) (within : Span) (olds : List Row) (news : List (List Value)) → list_all (stands_in t) news ≡ true → list_all writes_filled (replacing t within olds news) ≡ true
replaced_filled t within [] news all = refl
replaced_filled t within (old ∷ olds) [] all = refl
replaced_filled t within (old ∷ olds) (row ∷ news) all =
    let parts = and_parts (stands_in t row) (list_all (stands_in t) news) all in
    let one = and_parts (is_row_of row t) (is_key_of (row_key t row) t && list_all is_filled row) parts.0 in
    and_from _ _ (and_parts (is_key_of (row_key t row) t) (list_all is_filled row) one.1).1 (replaced_filled t within olds news parts.1)

pub replaced_keys : (t : Table) (within : Span) (olds : List Row) (news : List (List Value)) → length olds ≡ length news → change_keys (replacing t within olds news) ≡ map (row_key t) news
replaced_keys t within [] [] same = refl
replaced_keys t within [] (row ∷ news) same = absurd (omega (arith, same))
replaced_keys t within (old ∷ olds) [] same = absurd (omega (arith, same))
replaced_keys t within (old ∷ olds) (row ∷ news) same = ap (λ keys. row_key t row ∷ keys) (replaced_keys t within olds news (omega (arith, same)))

pub replaced_periods : (t : Table) (within : Span) (olds : List Row) (news : List (List Value)) → length olds ≡ length news → change_periods (replacing t within olds news) ≡ periods_of t within olds
replaced_periods t within [] [] same = refl
replaced_periods t within [] (row ∷ news) same = absurd (omega (arith, same))
replaced_periods t within (old ∷ olds) [] same = absurd (omega (arith, same))
replaced_periods t within (old ∷ olds) (row ∷ news) same = ap (λ periods. shared (row_period t old) within ∷ periods) (replaced_periods t within olds news (omega (arith, same)))

-- ---- what is not refused

-- no period that is written in what it sets is empty, where it sets no WM_VALID
pub update_lasts : (t : Table) (sets : List Set) (filter : Option Cond) → sets_period t sets ≡ false → update_fault t sets filter ≡ None → list_all (λ (s : Set). has_no_empty_period s.becomes) sets ≡ true
update_lasts t sets filter other none = sets_last t sets other (update_parts t sets filter none).0

fault_parts : (t : Table) (rows : List (List Value)) → rows_fault t rows ≡ None →
    (first_some (λ row. first_column (lacks_value t) 0 t.columns row) rows ≡ None) × (first_some (heavy_part t) rows ≡ None)
unfolding rows_fault
fault_parts t rows none =
    let parts = option_or_parts (option_map null_in (first_some (λ row. first_column (lacks_value t) 0 t.columns row) rows)) (option_map too_heavy (first_some (heavy_part t) rows)) none in
    (none_mapped null_in (first_some (λ row. first_column (lacks_value t) 0 t.columns row) rows) parts.0, none_mapped too_heavy (first_some (heavy_part t) rows) parts.1)

-- ---- the law

rows_made : (first : Option (List Value)) (rest : Option (List (List Value))) (news : List (List Value)) → row_before first rest ≡ Some news →
    (new : List Value) × (others : List (List Value)) × (first ≡ Some new) × (rest ≡ Some others) × (news ≡ new ∷ others)
rows_made None rest news made = absurd (cc)
rows_made (Some new) None news made = absurd (cc)
rows_made (Some new) (Some others) news made = (new, others, refl, refl, cc)

-- there are as many as before
pub made_as_many : (t : Table) (sets : List Set) (rows : List Row) (news : List (List Value)) → updated_rows t sets rows ≡ Some news → length rows ≡ length news
made_as_many t sets [] news made = let e : [] ≡ news = cc in ap length e
made_as_many t sets (row ∷ rows) news made =
    let parts = rows_made (updated_row t sets row) (updated_rows t sets rows) news made in
    ap (λ n. suc n) (made_as_many t sets rows parts.1 parts.3) ∙ sym (ap length parts.4)

rows_replace : (t : Table) (sets : List Set) → is_table t ≡ true → has_key t ≡ true → EachFits (own_columns t) sets → key_set t sets ≡ None →
    (rows : List Row) (news : List (List Value)) → all_stand t rows ≡ true → updated_rows t sets rows ≡ Some news →
    first_some (λ row. first_column (lacks_value t) 0 t.columns row) news ≡ None → first_some (heavy_part t) news ≡ None →
    (list_all (stands_in t) news ≡ true) × (map (row_key t) news ≡ keys_of t rows)
rows_replace t sets order keyed typed unset [] news old made full light = let e : news ≡ [] = cc in (ap (list_all (stands_in t)) e, ap (map (row_key t)) e)
rows_replace t sets order keyed typed unset (row ∷ rows) news old made full light =
    let parts = rows_made (updated_row t sets row) (updated_rows t sets rows) news made in
    let olds = and_parts (is_shown t row.values) (all_stand t rows) old in
    let fulls = option_or_parts (first_column (lacks_value t) 0 t.columns parts.0) (first_some (λ row. first_column (lacks_value t) 0 t.columns row) parts.1)
    (sym (ap (first_some (λ row. first_column (lacks_value t) 0 t.columns row)) parts.4) ∙ full) in
    let lights = option_or_parts (heavy_part t parts.0) (first_some (heavy_part t) parts.1) (sym (ap (first_some (heavy_part t)) parts.4) ∙ light) in
    let one = row_replaces t sets row parts.0 order keyed typed unset olds.0 parts.2 (nothing_found t parts.0 fulls.0 lights.0) in
    let rest = rows_replace t sets order keyed typed unset rows parts.1 olds.1 parts.3 fulls.1 lights.1 in (
      ap (list_all (stands_in t)) parts.4 ∙ and_from _ _ one.0 rest.0,
      ap (map (row_key t)) parts.4 ∙ ap (λ key. key ∷ map (row_key t) parts.1) one.1 ∙ ap (λ keys. row_key t (declared_values t row.values) ∷ keys) rest.1,
    )

-- rows that UPDATE makes of shown rows of the table, where neither it nor they are refused, may stand in the places of the old ones
pub may_replace : (t : Table) (sets : List Set) (filter : Option Cond) (rows : List Row) (news : List (List Value)) → is_table t ≡ true → has_key t ≡ true →
    update_fault t sets filter ≡ None → all_stand t rows ≡ true → updated_rows t sets rows ≡ Some news → rows_fault t news ≡ None → MayReplace t rows news
may_replace t sets filter rows news order keyed fine old made light =
    let update = update_parts t sets filter fine in
    let faults = fault_parts t news light in
    let both = rows_replace t sets order keyed update.0 update.1 rows news old made faults.0 faults.1 in
    record { stand = both.0; keys = both.1 }
