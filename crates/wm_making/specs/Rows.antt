-- INSERT: the row that it writes, and what the row is refused for.
use Rattle.std.specs.Prelude.{◌≡◌, ℕ, ◌+◌, Bool, true, false, ◌&&◌, ◌||◌, ◌==◌, nat_lt, length, if◌then◌else◌, List, [], ◌∷◌, map, take, slice_get, Option, Some, None, option_map, unwrap_or, codes}
use Rattle.std.specs.List.{list_any, position}
use Rattle.std.specs.Option.{option_or, option_and_then}
use Rattle.std.specs.Str.{bytes_eq}
use Rattle.wm_base.specs.declared.refusal.Refusal.{Refusal}
use Rattle.wm_base.specs.declared.refusal.Refusal.TheVariants as refusals
use Rattle.wm_base.specs.declared.refusal.CellRefusal.TheVariants.{Wm061, Wm063}
use Rattle.wm_base.specs.declared.row.Row.{Row}
use Rattle.wm_base.specs.declared.value.Value.{Value}
use Rattle.wm_base.specs.declared.value.Value.TheVariants as values
use Rattle.wm_syntax.specs.declared.constant.Const.TheVariants as constants
use Rattle.wm_syntax.specs.declared.operand.Operand.{Operand}
use Rattle.wm_syntax.specs.declared.operand.Operand.TheVariants as operands
use Rattle.wm_base.specs.Period.{Span}
use Rattle.wm_syntax.specs.Trees.{Expr, Of, Neg, Add, Sub, Mul}
use Rattle.wm_base.specs.Value.{weight_of}
use Rattle.wm_graph.specs.Rules.{weight, key_of, is_row_of, is_key_of}
use Rattle.wm_spec.specs.Conditions.{is_null}
use Rattle.wm_spec.specs.Expressions.{value_of}
use Rattle.wm_spec.specs.Operands.{span_between}
use Rattle.wm_spec.specs.declared.record.column.TableColumn.{TableColumn}
use Rattle.wm_spec.specs.declared.record.table.Table.{Table}
use Rattle.wm_making.specs.Inserting.{value_for_period}

-- ---- the row

-- what an expression of VALUES is computed from
abbrev pub no_row : Row
no_row = record { values = [] }

-- a value before others, where there are both
abbrev pub before : Option Value → Option (List Value) → Option (List Value)
before (Some v) (Some vs) = Some (v ∷ vs)
before (Some v) None = None
before None vs = None

-- an empty text is NULL
abbrev pub stored : Value → Value
stored (values.Text []) = values.Null
stored v = v

-- no empty text
abbrev pub is_filled : Value → Bool
is_filled (values.Text t) = nat_lt 0 (length t)
is_filled v = true

-- the value of an expression, as a row has it, and nothing where some number on the way is out of range
abbrev pub value_alone : Expr → Option Value
value_alone x = option_map stored (value_of x [] no_row)

-- the values of all expressions
abbrev pub values_of : List Expr → Option (List Value)
values_of [] = Some []
values_of (x ∷ xs) = before (value_alone x) (values_of xs)

-- the value that stands where the name stands, and NULL where it does not
abbrev pub value_named : List (List ℕ) → List Value → List ℕ → Value
value_named names vs name = unwrap_or (option_and_then (λ place. slice_get vs place) (position (bytes_eq name) names)) values.Null

-- the values of the declared columns, in their order; where no columns are named they stand so, before the one for WM_VALID
abbrev pub arranged : Table → Option (List (List ℕ)) → List Value → List Value
arranged t None vs = take (length t.columns) vs
arranged t (Some names) vs = map (λ (c : TableColumn). value_named names vs c.name) t.columns

-- the values of the new row, without the one for WM_VALID
unfoldable pub row_of : Table → Option (List (List ℕ)) → List Expr → Option (List Value)
row_of t names xs = option_map (arranged t names) (values_of xs)

-- ---- its period

-- the period that is written, where the operand is one
abbrev pub written_in : Operand → Option Span
written_in (operands.Const (constants.Span from till)) = Some (span_between from till)
written_in _ = None

-- the period that an expression is, where it is a written one
abbrev pub written_period : Expr → Option Span
written_period (Of operand) = written_in operand
written_period (Neg x) = None
written_period (Add x y) = None
written_period (Sub x y) = None
written_period (Mul x y) = None

-- the period that stands for WM_VALID
unfoldable pub period_given : Table → Option (List (List ℕ)) → List Expr → Option Span
period_given t names xs = option_and_then written_period (value_for_period t names 0 xs)

-- ---- what it is refused for

-- a key column stands at the place
abbrev pub is_key_at : Table → ℕ → Bool
is_key_at t place = list_any (λ key. place == key) t.key_columns

-- the name of the first column, from this place on, of whose value the test holds
abbrev pub first_column : (ℕ → TableColumn → Value → Bool) → ℕ → List TableColumn → List Value → Option (List ℕ)
first_column test place [] vs = None
first_column test place (c ∷ cs) [] = None
first_column test place (c ∷ cs) (v ∷ vs) = if test place c v then Some c.name else first_column test (place + 1) cs vs

-- the value is NULL and may not be
abbrev pub lacks_value : Table → ℕ → TableColumn → Value → Bool
lacks_value t place c v = is_null v && (c.not_null || is_key_at t place)

-- the value is a text of more bytes than the column takes
abbrev pub is_long : TableColumn → Value → Bool
is_long c (values.Text text) = nat_lt c.size (length text)
is_long c _ = false

-- the value is such a text, or a key that weighs more than 200
abbrev pub is_heavy : Table → ℕ → TableColumn → Value → Bool
is_heavy t place c v = is_long c v || (is_key_at t place && nat_lt 200 (weight_of v))

-- the first column whose value is too heavy, or ROW where all of them together are
abbrev pub heavy_part : Table → List Value → Option (List ℕ)
heavy_part t row = option_or (first_column (is_heavy t) 0 t.columns row) (if nat_lt 2000 (weight row) then Some (codes "ROW") else None)

abbrev pub null_in : List ℕ → Refusal
null_in name = refusals.Cell (Wm061 name)

abbrev pub too_heavy : List ℕ → Refusal
too_heavy name = refusals.Cell (Wm063 name)

-- what a row of the table is refused for by its values
unfoldable pub row_fault : Table → List Value → Option Refusal
row_fault t row = option_or (option_map null_in (first_column (lacks_value t) 0 t.columns row)) (option_map too_heavy (heavy_part t row))

-- ---- where it is refused for nothing

-- the table may keep the row, under its key of one value
pub record MayStand (t : Table) (row : List Value) : Type 0 where
  pub fits : is_row_of row t ≡ true
  pub value : Value
  pub key : key_of t row ≡ Some (value ∷ [])
  pub key_fits : is_key_of (value ∷ []) t ≡ true
