-- The key of a row, gathered value by value.
use Rattle.std.proofs.Common.{◌≡◌, ℕ, suc, ◌+◌, ◌<◌, Bool, true, false, List, [], ◌∷◌, ◌++◌, length, drop, get_or, refl, ap, ◌∙◌, append_assoc, add-one, drop-cons}
use Rattle.std.specs.Prelude.{Option, Some, None, option_map, unwrap_or, slice_get, if◌then◌else◌}
use Rattle.std.specs.Option.{option_and_then}
use Rattle.wm_base.specs.declared.value.Value.{Value}
use Rattle.wm_graph.specs.Rules.{has_key, values_at}
use Rattle.wm_spec.specs.declared.record.table.Table.{Table}
use Rattle.wm_dml.specs.Changing.{row_key}

-- what is there before what is left, of which the row has the first or not
at_place : (places : List ℕ) (row key : List Value) (i : ℕ) (found : Option Value) → i < length places → slice_get row (get_or places i 0) ≡ found →
    values_at places row ≡ option_map (λ vs. key ++ vs) (values_at (drop i places) row) →
    values_at places row ≡ option_map (λ vs. key ++ vs) (option_and_then (λ v. option_map (λ vs. v ∷ vs) (values_at (drop (suc i) places) row)) found)
at_place places row key i found near is left =
    left
    ∙ ap (λ rest. option_map (λ vs. key ++ vs) (values_at rest row)) (drop-cons places i 0 near)
    ∙ ap (λ o. option_map (λ vs. key ++ vs) (option_and_then (λ v. option_map (λ vs. v ∷ vs) (values_at (drop (suc i) places) row)) o)) is

-- a row that lacks one of them has no key
pub lacking : (t : Table) (row key : List Value) (i : ℕ) → i < length t.key_columns → slice_get row (get_or t.key_columns i 0) ≡ None →
    values_at t.key_columns row ≡ option_map (λ vs. key ++ vs) (values_at (drop i t.key_columns) row) → row_key t row ≡ []
lacking t row key i near none left = by_key (has_key t)
  where
    by_key : (b : Bool) → unwrap_or (if b then values_at t.key_columns row else None) [] ≡ []
    by_key true = ap (λ o. unwrap_or o []) (at_place t.key_columns row key i None near none left)
    by_key false = refl

joined : (key : List Value) (v : Value) (o : Option (List Value)) → option_map (λ vs. key ++ vs) (option_map (λ vs. v ∷ vs) o) ≡ option_map (λ vs. (key ++ v ∷ []) ++ vs) o
joined key v None = refl
joined key v (Some vs) = simp append_assoc

-- one more of them
pub gathered : (places : List ℕ) (row key : List Value) (i : ℕ) (v : Value) → i < length places → slice_get row (get_or places i 0) ≡ Some v →
    values_at places row ≡ option_map (λ vs. key ++ vs) (values_at (drop i places) row) →
    values_at places row ≡ option_map (λ vs. (key ++ v ∷ []) ++ vs) (values_at (drop (i + 1) places) row)
gathered places row key i v near is left =
    at_place places row key i (Some v) near is left
    ∙ joined key v (values_at (drop (suc i) places) row)
    ∙ rw add-one
