-- Rows that are put into groups one by one.
use Rattle.std.specs.Prelude.{◌≡◌, List, [], filter, slice_get, Some, option_and_then, unwrap_or}
use Rattle.std.specs.BTreeMap.{is_at}
use Rattle.std.specs.List.{position}
use Rattle.std.specs.Map.{lookup}
use Rattle.std.specs.Ordering.{is_eq}
use Rattle.wm_listing.specs.declared.columns.Column.{Column}
use Rattle.wm_base.specs.declared.row.Row.{Row}
use Rattle.wm_syntax.specs.declared.column.Col.{Col}
use Rattle.wm_base.specs.declared.value.Value.{Value}
use Rattle.wm_base.specs.declared.value.Value.TheVariants as values
use Rattle.wm_spec.specs.Operands.{is_named, suffixed}
use Rattle.wm_select.specs.declared.group_columns.GroupColumn.{GroupColumn}
use Rattle.wm_select.specs.Query.{group_values}
use Rattle.wm_ordering.specs.Sorting.{left_to_right}

-- the first of the columns that has the name
abbrev pub looked_up : List Column → Col → GroupColumn
looked_up columns col = record { place = position (λ column. is_named col.source col.name column) columns; suffix = col.suffix }

-- the row's value at a column, NULL where there is none
abbrev pub value_in : Row → GroupColumn → Value
value_in row column = suffixed column.suffix (unwrap_or (option_and_then (λ place. slice_get row.values place) column.place) values.Null)

-- the rows of the group that has these values
abbrev pub rows_under : List (List Value × List Row) → List Value → List Row
rows_under groups key = unwrap_or (lookup (is_at (left_to_right key)) groups) []

-- each row is in the group that has its values, in order, and no group is empty
pub record AreGrouped (cols : List Col) (columns : List Column) (rows : List Row) (groups : List (List Value × List Row)) : Type 0 where
  pub own : (key : List Value) → rows_under groups key ≡ filter (λ row. is_eq (left_to_right (group_values cols columns row) key)) rows
  pub filled : (key : List Value) → lookup (is_at (left_to_right key)) groups ≡ Some [] → ⊥
