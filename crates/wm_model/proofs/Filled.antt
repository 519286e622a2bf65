-- No text is empty in the key and the declared values of a row in which none is.
use Rattle.std.proofs.Common.{◌≡◌, ℕ, zero, suc, Bool, true, false, if◌then◌else◌, List, [], ◌∷◌, take, length, refl, Option, Some, None, unwrap_or, slice_get}
use Rattle.std.proofs.lemmas.Bool.{and_from, and_parts}
use Rattle.std.specs.List.{list_all}
use Rattle.std.specs.Option.{option_and_then, option_map, option_map_or}
use Rattle.wm_base.specs.declared.value.Value.{Value}
use Rattle.wm_dml.specs.Changing.{declared_values, row_key}
use Rattle.wm_graph.specs.Rules.{has_key, values_at}
use Rattle.wm_making.specs.Rows.{is_filled}
use Rattle.wm_making.proofs.Filled.{taken_filled}
use Rattle.wm_spec.specs.declared.record.table.Table.{Table}

filled_at : (vs : List Value) (i : ℕ) → list_all is_filled vs ≡ true → option_map_or is_filled (slice_get vs i) true ≡ true
filled_at [] i all = refl
filled_at (v ∷ vs) zero all = (and_parts (is_filled v) (list_all is_filled vs) all).0
filled_at (v ∷ vs) (suc i) all = filled_at vs i (and_parts (is_filled v) (list_all is_filled vs) all).1

filled_values : (places : List ℕ) (row : List Value) → list_all is_filled row ≡ true → list_all is_filled (unwrap_or (values_at places row) []) ≡ true
filled_values [] row filled = refl
filled_values (place ∷ places) row filled = by_value (slice_get row place) (values_at places row) (filled_at row place filled) (filled_values places row filled)
  where
    by_value : (o : Option Value) (rest : Option (List Value)) → option_map_or is_filled o true ≡ true → list_all is_filled (unwrap_or rest []) ≡ true
        → list_all is_filled (unwrap_or (option_and_then (λ v. option_map (λ ws. v ∷ ws) rest) o) []) ≡ true
    by_value None rest one all = refl
    by_value (Some v) None one all = refl
    by_value (Some v) (Some ws) one all = and_from (is_filled v) (list_all is_filled ws) one all

-- no text of the key of such a row is empty
pub filled_key : (t : Table) (row : List Value) → list_all is_filled row ≡ true → list_all is_filled (row_key t row) ≡ true
filled_key t row filled = by_key (has_key t)
  where
    by_key : (b : Bool) → list_all is_filled (unwrap_or (if b then values_at t.key_columns row else None) []) ≡ true
    by_key true = filled_values t.key_columns row filled
    by_key false = refl

-- nor of its declared values
pub declared_filled : (t : Table) (vs : List Value) → list_all is_filled vs ≡ true → list_all is_filled (declared_values t vs) ≡ true
declared_filled t vs all = by_valid t.valid
  where
    by_valid : (b : Bool) → list_all is_filled (if b then take (length t.columns) vs else vs) ≡ true
    by_valid true = taken_filled (length t.columns) vs all
    by_valid false = all
