-- The rows of a table and the changes of its rows that are in order.
use Rattle.std.specs.Prelude.{◌≡◌, Bool, true, false, ◌&&◌, nat_lt, nat_le, if◌then◌else◌, List, [], ◌∷◌, length, map, drop}
use Rattle.std.specs.List.{list_all}
use Rattle.std.specs.Option.{option_map_or}
use Rattle.wm_base.specs.Period.{Span, shared}
use Rattle.wm_base.specs.declared.instant.TheConstants.{END}
use Rattle.wm_base.specs.declared.row.Row.{Row}
use Rattle.wm_base.specs.declared.value.Value.{Value}
use Rattle.wm_base.specs.declared.value.Value.TheVariants as values
use Rattle.wm_graph.specs.Rules.{key_of, is_row_of, is_key_of, is_key}
use Rattle.wm_making.specs.Rows.{is_filled}
use Rattle.wm_spec.specs.declared.record.table.Table.{Table}
use Rattle.wm_dml.specs.Changing.{declared_values, row_period, row_key}
use Rattle.wm_dml.specs.declared.change.RowChange.{RowChange}

-- the values are a row of the table, under a key of the table's, and no text of them is empty
abbrev pub stands_in : Table → List Value → Bool
stands_in t row = is_row_of row t && (is_key_of (row_key t row) t && list_all is_filled row)

-- the period is not empty, and ends at most at END
abbrev pub is_lasting : Span → Bool
is_lasting p = nat_lt p.from p.till && nat_le p.till END

-- such a period, alone
abbrev pub is_period_alone : List Value → Bool
is_period_alone (values.Span period ∷ []) = is_lasting period
is_period_alone _ = false

-- a shown row: its declared values stand in the table, and behind them is its period, where the table has valid time
abbrev pub is_shown : Table → List Value → Bool
is_shown t row = stands_in t (declared_values t row) && (if t.valid then is_period_alone (drop (length t.columns) row) else true)

abbrev pub all_stand : Table → List Row → Bool
all_stand t rows = list_all (λ (r : Row). is_shown t r.values) rows

-- the keys of the rows, in order
abbrev pub keys_of : Table → List Row → List (List Value)
keys_of t rows = map (λ (r : Row). row_key t (declared_values t r.values)) rows

-- the periods that the rows share with this one, in order
abbrev pub periods_of : Table → Span → List Row → List Span
periods_of t within rows = map (λ (r : Row). shared (row_period t r) within) rows

-- the key is one of the table's, and the row, where there is one, is one of its rows with this key
abbrev pub is_change : Table → RowChange → Bool
is_change t x = is_key_of x.key t && option_map_or (λ row. is_row_of row t && is_key x.key (key_of t row)) x.row true

-- no text of the row, where there is one, is empty
abbrev pub writes_filled : RowChange → Bool
writes_filled x = option_map_or (list_all is_filled) x.row true

-- the period of the change lasts
abbrev pub change_lasts : RowChange → Bool
change_lasts x = is_lasting x.period

-- the keys of the changes, in order
abbrev pub change_keys : List RowChange → List (List Value)
change_keys changes = map (λ (x : RowChange). x.key) changes

-- their periods, in order
abbrev pub change_periods : List RowChange → List Span
change_periods changes = map (λ (x : RowChange). x.period) changes

-- the new rows may stand in the places of the old ones: each stands in the table, and has the key of the one that it replaces
pub record MayReplace (t : Table) (rows : List Row) (news : List (List Value)) : Type 0 where
  pub stand : list_all (stands_in t) news ≡ true
  pub keys : map (row_key t) news ≡ keys_of t rows
