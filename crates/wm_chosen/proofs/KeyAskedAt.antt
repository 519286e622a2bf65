-- No tuple that a query keeps has another key at a table than the one that its conditions ask for.
use Rattle.std.proofs.Common.{◌≡◌, ℕ, ◌+◌, ◌<◌, ◌≤◌, nat_lt, nat_le, ◌&&◌, true, List, [], ◌∷◌, ◌++◌, length, get_or, slice_get, Option, Some, None, Result, Ok, Err, IfOk, IfSome, append_assoc, arith, sym, ap, subst, ◌∙◌}
use Rattle.std.proofs.lemmas.Bool.{and_parts}
use Rattle.std.proofs.lemmas.List.{get_or_append_left, get_or-append-add}
use Rattle.std.proofs.lemmas.Option.{get_or_from_slice_get, slice_get-get_or, none-some}
use Rattle.wm_syntax.specs.Trees.{Cond, Query, Src}
use Rattle.wm_listing.specs.declared.columns.Column.{Column}
use Rattle.wm_base.specs.declared.memory.Memory.{Memory}
use Rattle.wm_base.specs.declared.row.Row.{Row}
use Rattle.wm_syntax.specs.declared.constant.Const.{Const}
use Rattle.wm_base.specs.declared.value.Value.{Value}
use Rattle.std.specs.List.{list_all}
use Rattle.wm_graph.proofs.Keyed.{table_keyed}
use Rattle.wm_graph.specs.Rules.{is_table, key_of}
use Rattle.wm_joining.specs.Kept.{is_kept, meets, meets_each}
use Rattle.wm_joining.specs.Tuples.{beside}
use Rattle.wm_spec.specs.Conditions.{truth_of}
use Rattle.wm_spec.specs.Operands.{constant_value}
use Rattle.wm_spec.specs.declared.record.table.Table.{Table}
use Rattle.wm_chosen.proofs.KeyAsked.{asked_there, key_there, one_of_two}
use Rattle.wm_chosen.specs.Keyed.{FixesKeyAt, asked_by, asked_if, asked_on}

asked_met : (columns : List Column) (place : ℕ) (filter : Option Cond) (constant : Const) (row : Row) → asked_if columns place filter ≡ Some constant → meets filter columns row ≡ true
    → slice_get row.values place ≡ Some (constant_value constant)
unfolding truth_of
asked_met columns place None constant row is e = absurd (none-some constant is)
asked_met columns place (Some condition) constant row is e = asked_there columns place condition constant row.values is e

asked_joined : (columns : List Column) (place : ℕ) (sources : List Src) (constant : Const) (row : Row) → asked_on columns place sources ≡ Some constant → meets_each sources columns row ≡ true
    → slice_get row.values place ≡ Some (constant_value constant)
asked_joined columns place [] constant row is e = absurd (none-some constant is)
asked_joined columns place (x ∷ xs) constant row is e =
    let h = and_parts (meets x.on columns row) (meets_each xs columns row) e in
    one_of_two (slice_get row.values place ≡ Some (constant_value constant)) (asked_if columns place x.on) (asked_on columns place xs) constant
    (λ one. asked_met columns place x.on constant row one h.0) (λ two. asked_joined columns place xs constant row two h.1) is

-- no tuple with another value at the place is kept
asked_kept : (columns : List Column) (place : ℕ) (query : Query) (constant : Const) (row : Row) → asked_by columns place query ≡ Some constant → is_kept query columns row ≡ true
    → slice_get row.values place ≡ Some (constant_value constant)
asked_kept columns place query constant row is e =
    let h = and_parts (meets query.filter columns row) (meets_each query.sources columns row) e in
    one_of_two (slice_get row.values place ≡ Some (constant_value constant)) (asked_if columns place query.filter) (asked_on columns place query.sources) constant
    (λ one. asked_met columns place query.filter constant row one h.0) (λ two. asked_joined columns place query.sources constant row two h.1) is

-- what stands behind the first of three lists stands in the second
in_middle : (xs ys zs : List Value) (i : ℕ) (v : Value) → i < length ys → slice_get ((xs ++ ys) ++ zs) (length xs + i) ≡ Some v → slice_get ys i ≡ Some v
in_middle xs ys zs i v within e =
    let there : get_or (xs ++ (ys ++ zs)) (length xs + i) v ≡ v =
    ap (λ (vs : List Value). get_or vs (length xs + i) v) (sym (append_assoc xs ys zs)) ∙ get_or_from_slice_get ((xs ++ ys) ++ zs) (length xs + i) v v e in
    slice_get-get_or ys i v within ∙ ap (λ (w : Value). Some w) (sym (get_or_append_left ys zs v i within) ∙ sym (get_or-append-add xs (ys ++ zs) i v) ∙ there)

-- the key is one of the columns
key_inside : (t : Table) (place : ℕ) → is_table t ≡ true → t.key_columns ≡ place ∷ [] → place < length t.columns
key_inside t place well one =
    let all : (nat_lt place (length t.columns) && true) ≡ true = ap (list_all (λ (place : ℕ). nat_lt place (length t.columns))) (sym one) ∙ (and_parts (nat_le (length t.key_columns) 1) (list_all (λ (place : ℕ). nat_lt place (length t.columns)) t.key_columns) (table_keyed t well)).1 in
    let lt = (and_parts (nat_lt place (length t.columns)) true all).0 in
    grind (arith, lt)

fixes_key_at : (t : Table) (query : Query) (columns : List Column) (before place : ℕ) (constant : Const) → is_table t ≡ true → t.key_columns ≡ place ∷ [] → asked_by columns (before + place) query ≡ Some constant
    → FixesKeyAt t (is_kept query columns) before (constant_value constant ∷ [])
fixes_key_at t query columns before place constant well one is = record { under = under }
  where
    inside : place < length t.columns
    inside = key_inside t place well one

    under : (first row other : Row) → length first.values ≡ before → length t.columns ≤ length row.values → is_kept query columns (beside (beside first row) other) ≡ true → key_of t row.values ≡ Some (constant_value constant ∷ [])
    under first row other behind wide e =
        key_there t place (constant_value constant) row.values one
        (in_middle first.values row.values other.values place (constant_value constant) (let near = inside in omega (arith, near, wide))
        (ap (λ n. slice_get ((first.values ++ row.values) ++ other.values) (n + place)) behind ∙ asked_kept columns (before + place) query constant (beside (beside first row) other) is e))

-- so the key that was made of it is that of each tuple that is kept
pub key_fixed_at : (r : Result (Option (List Value)) Memory) (t : Table) (query : Query) (columns : List Column) (before key place : ℕ) (found : Option Const) (constant : Const) → is_table t ≡ true → t.key_columns ≡ key ∷ []
    → place ≡ before + key → found ≡ asked_by columns place query → found ≡ Some constant → IfOk r (λ made. IfSome made (λ key. key ≡ constant_value constant ∷ []))
    → IfOk r (λ made. IfSome made (FixesKeyAt t (is_kept query columns) before))
key_fixed_at (Ok (Some made_key)) t query columns before key place found constant well one at is there made =
    subst (FixesKeyAt t (is_kept query columns) before) (sym made) (fixes_key_at t query columns before key constant well one (ap (λ n. asked_by columns n query) (sym at) ∙ sym is ∙ there))
key_fixed_at (Ok None) t query columns before key place found constant well one at is there made = tt
key_fixed_at (Err e) t query columns before key place found constant well one at is there made = tt
