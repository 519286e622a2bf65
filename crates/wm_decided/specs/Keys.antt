-- Conditions that name key columns alone.
use Rattle.std.specs.Prelude.{Bool, List, [], ◌∷◌, ◌++◌, map, slice_get, Option}
use Rattle.std.specs.List.{filter_map}
use Rattle.wm_syntax.specs.Trees.{Cond}
use Rattle.wm_listing.specs.declared.columns.Column.{Column}
use Rattle.wm_base.specs.declared.row.Row.{Row}
use Rattle.wm_base.specs.declared.value.Value.{Value}
use Rattle.wm_base.specs.declared.value.Value.TheVariants as values
use Rattle.wm_dml.specs.Changing.{meets}
use Rattle.wm_spec.specs.declared.record.column.TableColumn.{TableColumn}
use Rattle.wm_spec.specs.declared.record.table.Table.{Table}
use Rattle.wm_typing.specs.Columns.{declared_column, valid_column}

-- the key columns of a table, in the order in which its keys have them
abbrev pub key_columns : Table → List TableColumn
key_columns t = filter_map (slice_get t.columns) t.key_columns

-- what such a condition may name: behind the key columns stands WM_VALID, twice, so that no name means it
abbrev pub columns_of_keys : Table → List Column
columns_of_keys t = map (declared_column t.name) (key_columns t) ++ valid_column t.name ∷ valid_column t.name ∷ []

-- a key as a row of these columns
abbrev pub key_as_row : List Value → Row
key_as_row key = record { values = key ++ values.Null ∷ values.Null ∷ [] }

-- the condition is true of a key, where there is one
abbrev pub meets_key : Table → Option Cond → List Value → Bool
meets_key t condition key = meets condition (columns_of_keys t) (key_as_row key)
