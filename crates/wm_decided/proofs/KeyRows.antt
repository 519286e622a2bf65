-- A key of a table, as a row of its key columns, fits these.
use Rattle.std.proofs.Common.{◌≡◌, ℕ, ◌==◌, ◌||◌, ◌&&◌, nat_le, true, false, List, [], ◌∷◌, ◌++◌, map, slice_get, Option, None, Some, refl}
use Rattle.std.proofs.lemmas.Bool.{and_from, and_parts, or_right}
use Rattle.std.specs.List.{cons_option, filter_map}
use Rattle.std.specs.Option.{option_map_or}
use Rattle.wm_base.specs.Value.{type_place}
use Rattle.wm_listing.specs.declared.columns.Column.{Column}
use Rattle.wm_base.specs.declared.value.Value.{Value}
use Rattle.wm_base.specs.declared.value.Value.TheVariants as values
use Rattle.wm_graph.specs.Rules.{are_typed, has_key, is_key_of, is_typed, type_of, weight}
use Rattle.wm_spec.specs.Conditions.{fits}
use Rattle.wm_spec.specs.Operands.{fits_columns}
use Rattle.wm_spec.specs.declared.record.column.TableColumn.{TableColumn}
use Rattle.wm_spec.specs.declared.record.table.Table.{Table}
use Rattle.wm_typing.specs.Columns.{declared_column, valid_column}
use Rattle.wm_decided.specs.Keys.{columns_of_keys, key_as_row}

module _ (name : List ℕ) (columns : List TableColumn) where
  -- WM_VALID, which is NULL in such a row
  abbrev ends : List Column
  ends = valid_column name ∷ valid_column name ∷ []

  abbrev nulls : List Value
  nulls = values.Null ∷ values.Null ∷ []

  abbrev keyed : List ℕ → List Column
  keyed places = map (declared_column name) (filter_map (slice_get columns) places)

  values_fit : (places : List ℕ) (vs : List Value) → are_typed columns places vs ≡ true → fits_columns (keyed places ++ ends) (vs ++ nulls) ≡ true
  values_fit [] [] typed = refl
  values_fit [] (v ∷ vs) typed = absurd (cc)
  values_fit (place ∷ places) [] typed = absurd (cc)
  values_fit (place ∷ places) (v ∷ vs) typed =
      let parts = and_parts (is_typed columns place v) (are_typed columns places vs) typed in by_column (slice_get columns place) parts.0 (values_fit places vs parts.1)
    where
      by_column : (o : Option TableColumn) → option_map_or (λ (c : TableColumn). type_place v == type_of c.kind) o false ≡ true → fits_columns (keyed places ++ ends) (vs ++ nulls) ≡ true
          → fits_columns (map (declared_column name) (cons_option o (filter_map (slice_get columns) places)) ++ ends) (v ∷ vs ++ nulls) ≡ true
      by_column None typed rest = absurd (cc)
      by_column (Some c) typed rest =
          and_from ((type_place v == 0) || (type_place v == type_of c.kind)) (fits_columns (keyed places ++ ends) (vs ++ nulls)) (or_right (type_place v == 0) (type_place v == type_of c.kind) typed) rest

pub key_fits : (t : Table) (key : List Value) → is_key_of key t ≡ true → fits (columns_of_keys t) (key_as_row key) ≡ true
unfolding fits
key_fits t key is =
    values_fit t.name t.columns t.key_columns key
    (and_parts (has_key t) (are_typed t.columns t.key_columns key) (and_parts (nat_le (weight key) 200) (has_key t && are_typed t.columns t.key_columns key) is).1).1
