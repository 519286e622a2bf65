-- The key that a condition asks for: the rows on which the condition is true are all under it.
use Rattle.std.specs.Prelude.{ℕ, ◌≡◌, Bool, true, false, ◌==◌, List, Option, Some, None, if◌then◌else◌, ◌≤◌, [], ◌∷◌, length}
use Rattle.std.specs.List.{position}
use Rattle.std.specs.Option.{option_or}
use Rattle.wm_listing.specs.declared.columns.Column.{Column}
use Rattle.wm_base.specs.declared.row.Row.{Row}
use Rattle.wm_syntax.specs.declared.column.Col.{Col}
use Rattle.wm_syntax.specs.declared.column.Suffix.{Suffix}
use Rattle.wm_syntax.specs.declared.cond.Cmp.TheVariants.{Eq}
use Rattle.wm_syntax.specs.declared.constant.Const.{Const}
use Rattle.wm_syntax.specs.declared.operand.Operand.{Operand}
use Rattle.wm_syntax.specs.declared.operand.Operand.TheVariants as operands
use Rattle.wm_base.specs.declared.value.Value.{Value}
use Rattle.wm_syntax.specs.Trees.{Cond, And, Compare, Query, Src}
use Rattle.wm_dml.specs.Changing.{meets, own_columns}
use Rattle.wm_graph.specs.Rules.{key_of}
use Rattle.wm_spec.specs.Operands.{is_named}
use Rattle.wm_spec.specs.declared.record.table.Table.{Table}
use Rattle.wm_joining.specs.Tuples.{beside}

-- ---- what is asked

-- the condition is true on no row but those under the key
pub record FixesKey (t : Table) (condition : Option Cond) (key : List Value) : Type 0 where
  pub under : (row : Row) → meets condition (own_columns t) row ≡ true → key_of t row.values ≡ Some key

-- ---- how it is found

-- the place that was found, of a column without a suffix, is this one
abbrev pub is_place : ℕ → Option Suffix → Option ℕ → Bool
is_place place None (Some found) = found == place
is_place place _ _ = false

-- the name stands for the column at the place
abbrev pub stands_at : List Column → ℕ → Col → Bool
stands_at columns place col = is_place place col.suffix (position (λ column. is_named col.source col.name column) columns)

-- the constant on one side of an equation, where the column at the place is the other side
abbrev pub across : List Column → ℕ → Operand → Operand → Option Const
across columns place (operands.Col col) (operands.Const constant) = if stands_at columns place col then Some constant else None
across columns place _ _ = None

-- the constant that the condition asks of the column at the place: one of the conditions that AND joins says so
abbrev pub asked : List Column → ℕ → Cond → Option Const
asked columns place (And c d) = option_or (asked columns place c) (asked columns place d)
asked columns place (Compare left Eq right) = option_or (across columns place left right) (across columns place right left)
asked columns place _ = None

-- ---- of a query

-- each tuple that is kept has this key at the table whose columns stand behind so many others
pub record FixesKeyAt (t : Table) (keeps : Row → Bool) (before : ℕ) (key : List Value) : Type 0 where
  pub under : (one row other : Row) → length one.values ≡ before → length t.columns ≤ length row.values → keeps (beside (beside one row) other) ≡ true → key_of t row.values ≡ Some key

-- the constant that a condition asks of the column at the place, where there is a condition
abbrev pub asked_if : List Column → ℕ → Option Cond → Option Const
asked_if columns place None = None
asked_if columns place (Some condition) = asked columns place condition

-- that of the first condition behind a JOIN that asks for one
abbrev pub asked_on : List Column → ℕ → List Src → Option Const
asked_on columns place [] = None
asked_on columns place (x ∷ xs) = option_or (asked_if columns place x.on) (asked_on columns place xs)

-- WHERE comes before them
abbrev pub asked_by : List Column → ℕ → Query → Option Const
asked_by columns place query = option_or (asked_if columns place query.filter) (asked_on columns place query.sources)
