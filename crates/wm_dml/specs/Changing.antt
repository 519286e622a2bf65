-- What INSERT, UPDATE and DELETE make of the rows of a table. Each change holds over a period, which is all of time in a table without
-- valid time.
use Rattle.std.specs.Prelude.{ℕ, Bool, true, ◌&&◌, ◌∷◌, if◌then◌else◌, List, [], length, map, filter, take, slice_get, unwrap_or, bytes_eq, Option, Some, None, option_map}
use Rattle.std.specs.List.{find, list_all, list_any}
use Rattle.std.specs.Option.{option_or, option_and_then}
use Rattle.wm_listing.specs.declared.columns.Column.{Column}
use Rattle.wm_base.specs.declared.kind.Kind.TheVariants.{Insert, Update, Delete}
use Rattle.wm_base.specs.declared.refusal.Refusal.{Refusal}
use Rattle.wm_base.specs.declared.row.Row.{Row}
use Rattle.wm_base.specs.declared.value.Value.{Value}
use Rattle.wm_base.specs.Period.{Span, always, overlaps, shared}
use Rattle.wm_syntax.specs.Trees.{Cond, Set}
use Rattle.wm_graph.specs.Rules.{key_of}
use Rattle.wm_making.specs.Rows.{before, stored, first_column, lacks_value, heavy_part, null_in, too_heavy}
use Rattle.wm_spec.specs.Conditions.{truth_of, is_yes}
use Rattle.wm_spec.specs.Expressions.{value_of}
use Rattle.wm_spec.specs.Operands.{period_of, wm_valid}
use Rattle.wm_spec.specs.declared.record.column.TableColumn.{TableColumn}
use Rattle.wm_spec.specs.declared.record.table.Table.{Table}
use Rattle.wm_typing.specs.Columns.{columns_of_table}
use Rattle.wm_dml.specs.declared.change.RowChange.{RowChange}

-- ---- which rows

-- the columns of the table, as the statement names them
abbrev pub own_columns : Table → List Column
own_columns t = columns_of_table t.name t

-- the condition is true, where there is one
abbrev pub meets : Option Cond → List Column → Row → Bool
meets None columns row = true
meets (Some condition) columns row = is_yes (truth_of condition columns row)

-- the rows on which the condition is true, in order
abbrev pub chosen : Table → Option Cond → List Row → List Row
chosen t condition rows = filter (meets condition (own_columns t)) rows

-- ---- a shown row: behind its declared values a table with valid time has the period over which it holds

abbrev pub declared_values : Table → List Value → List Value
declared_values t values = if t.valid then take (length t.columns) values else values

-- the period over which a shown row holds
abbrev pub row_period : Table → Row → Span
row_period t row = if t.valid then unwrap_or (option_and_then period_of (slice_get row.values (length t.columns))) always else always

-- each of the rows holds somewhere in the period, as those do that a session is shown
abbrev pub all_overlap : Table → Span → List Row → Bool
all_overlap t within rows = list_all (λ (r : Row). overlaps (row_period t r) within) rows

-- the key of the declared values of a row; each table in workspaces has one
abbrev pub row_key : Table → List Value → List Value
row_key t row = unwrap_or (key_of t row) []

-- ---- INSERT

-- a new row, over its period
abbrev pub added : Table → Span → List Value → RowChange
added t period row = record { key = row_key t row; period = period; row = Some row; kind = Insert }

-- ---- DELETE

-- the row is gone over what its period shares with that of the session
abbrev pub gone : Table → Span → Row → RowChange
gone t within row = record {
  key = row_key t (declared_values t row.values);
  period = shared (row_period t row) within;
  row = let nothing : Option (List Value) = None in nothing;
  kind = Delete;
}

abbrev pub deleted : Table → Span → Option Cond → List Row → List RowChange
deleted t within condition rows = map (gone t within) (chosen t condition rows)

-- ---- UPDATE

-- the sets give new periods to rows of a table with valid time, and make no rows over parts of old periods
abbrev pub sets_period : Table → List Set → Bool
sets_period t sets = t.valid && list_any (λ (s : Set). bytes_eq s.name wm_valid) sets

-- the value of a column once it is set, if it is, as a row has it; nothing where a number on the way is out of range
abbrev pub set_value : List Column → List Set → Row → TableColumn → Value → Option Value
set_value columns sets row c v = of (find (λ (s : Set). bytes_eq s.name c.name) sets)
  where
    of : Option Set → Option Value
    of None = Some v
    of (Some s) = option_map stored (value_of s.becomes columns row)

-- the values of all columns once they are set
abbrev pub set_values : List Column → List Set → Row → List TableColumn → List Value → Option (List Value)
set_values columns sets row (c ∷ cs) (v ∷ vs) = before (set_value columns sets row c v) (set_values columns sets row cs vs)
set_values columns sets row _ _ = Some []

-- the row that an UPDATE makes of another
abbrev pub updated_row : Table → List Set → Row → Option (List Value)
updated_row t sets row = set_values (own_columns t) sets row t.columns row.values

-- a row before others, where there are both
abbrev pub row_before : Option (List Value) → Option (List (List Value)) → Option (List (List Value))
row_before (Some row) (Some rows) = Some (row ∷ rows)
row_before (Some row) None = None
row_before None rows = None

abbrev pub updated_rows : Table → List Set → List Row → Option (List (List Value))
updated_rows t sets [] = Some []
updated_rows t sets (row ∷ rows) = row_before (updated_row t sets row) (updated_rows t sets rows)

-- the first that is there
abbrev pub first_some : {A : Type 0} → (A → Option (List ℕ)) → List A → Option (List ℕ)
first_some f [] = None
first_some f (x ∷ xs) = option_or (f x) (first_some f xs)

-- what new rows are refused for: NULL in one of them, and then a text, a key or a row that is too heavy
unfoldable pub rows_fault : Table → List (List Value) → Option Refusal
rows_fault t rows =
    option_or (option_map null_in (first_some (λ row. first_column (lacks_value t) 0 t.columns row) rows)) (option_map too_heavy (first_some (heavy_part t) rows))

-- a row in the place of an old one of its key, over what the period of that one shares with that of the session
abbrev pub replaced : Table → Span → Row → List Value → RowChange
replaced t within old row = record { key = row_key t row; period = shared (row_period t old) within; row = Some row; kind = Update }

-- each in the place of the old one that stands where it stands
abbrev pub replacing : Table → Span → List Row → List (List Value) → List RowChange
replacing t within (old ∷ olds) (row ∷ rows) = replaced t within old row ∷ replacing t within olds rows
replacing t within _ _ = []
