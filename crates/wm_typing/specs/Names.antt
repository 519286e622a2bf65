-- The first column that is named and is not there, in the order of the tokens.
use Rattle.std.specs.Prelude.{ℕ, Bool, true, false, ◌&&◌, not, ◌==◌, List, Option, None, Some, is_some, bytes_eq, if◌then◌else◌}
use Rattle.std.specs.List.{list_any}
use Rattle.std.specs.Option.{option_or}
use Rattle.wm_listing.specs.declared.columns.Column.{Column}
use Rattle.wm_syntax.specs.declared.column.Col.{Col}
use Rattle.wm_syntax.specs.declared.operand.Operand.{Operand}
use Rattle.wm_syntax.specs.declared.operand.Operand.TheVariants as operands
use Rattle.wm_syntax.specs.declared.operand.Per.{Per}
use Rattle.wm_syntax.specs.declared.operand.Per.TheVariants as periods
use Rattle.wm_syntax.specs.Trees.{Expr, Of, Neg, Add, Sub, Mul, Cond, Or, And, Not, Compare, IsNull, OneOf, Between}
use Rattle.wm_spec.specs.Operands.{is_of_source, is_named, wm_valid, kind_of, suffixed_kind, constant_kind}

-- ---- types by the names

-- WM_VALID is named, and there is a source that it may mean, but no such column
abbrev pub lacks_period : Option (List ℕ) → List ℕ → List Column → Bool
lacks_period source name columns = list_any (λ column. is_of_source source column) columns && (bytes_eq name wm_valid && not (list_any (λ column. is_named source name column) columns))

-- the kind of what is named: WM_VALID is a period by its name, and anything else is what its column is
abbrev pub kind_named : Option (List ℕ) → List ℕ → List Column → Option ℕ
kind_named source name columns = if lacks_period source name columns then Some 4 else kind_of source name columns

abbrev pub is_kind_of_periods : Option ℕ → Bool
is_kind_of_periods None = false
is_kind_of_periods (Some kind) = kind == 4

-- a period that is written, or WM_VALID
abbrev pub named_period : Per → List Column → Bool
named_period (periods.Valid source) columns = is_kind_of_periods (kind_named source wm_valid columns)
named_period (periods.Span from till) columns = true

-- the type of an operand by its names, and nothing where it names what is neither a column nor WM_VALID
abbrev pub named_kind : Operand → List Column → Option ℕ
named_kind (operands.Col col) columns = suffixed_kind col.suffix (kind_named col.source col.name columns)
named_kind (operands.Const constant) columns = Some (constant_kind constant)
named_kind (operands.Test operator left right) columns = if named_period left columns && named_period right columns then Some 1 else None

-- ---- names that are not there

-- the text, where the test fails
abbrev pub unless : Bool → List ℕ → Option (List ℕ)
unless true text = None
unless false text = Some text

-- the name, where it is not that of exactly one of these columns, or where an end is asked of a column that has none
abbrev pub unknown_col : List Column → Col → Option (List ℕ)
unknown_col columns col = unless (is_some (named_kind (operands.Col col) columns)) col.name

-- WM_VALID, where it is named and is several columns, or that of no source
abbrev pub unknown_period : List Column → Per → Option (List ℕ)
unknown_period columns period = unless (named_period period columns) wm_valid

abbrev pub unknown_in_operand : List Column → Operand → Option (List ℕ)
unknown_in_operand columns (operands.Col col) = unknown_col columns col
unknown_in_operand columns (operands.Const constant) = None
unknown_in_operand columns (operands.Test operator left right) = option_or (unknown_period columns left) (unknown_period columns right)

abbrev pub unknown_in_expr : List Column → Expr → Option (List ℕ)
unknown_in_expr columns (Of operand) = unknown_in_operand columns operand
unknown_in_expr columns (Neg x) = unknown_in_expr columns x
unknown_in_expr columns (Add x y) = option_or (unknown_in_expr columns x) (unknown_in_expr columns y)
unknown_in_expr columns (Sub x y) = option_or (unknown_in_expr columns x) (unknown_in_expr columns y)
unknown_in_expr columns (Mul x y) = option_or (unknown_in_expr columns x) (unknown_in_expr columns y)

-- the list of an IN has constants alone
abbrev pub unknown_in_cond : List Column → Cond → Option (List ℕ)
unknown_in_cond columns (Or c d) = option_or (unknown_in_cond columns c) (unknown_in_cond columns d)
unknown_in_cond columns (And c d) = option_or (unknown_in_cond columns c) (unknown_in_cond columns d)
unknown_in_cond columns (Not c) = unknown_in_cond columns c
unknown_in_cond columns (Compare left cmp right) = option_or (unknown_in_operand columns left) (unknown_in_operand columns right)
unknown_in_cond columns (IsNull what negated) = unknown_in_operand columns what
unknown_in_cond columns (OneOf what negated list) = unknown_in_operand columns what
unknown_in_cond columns (Between what negated low high) =
    option_or (unknown_in_operand columns what) (option_or (unknown_in_operand columns low) (unknown_in_operand columns high))

-- the first name of no column in a condition that may be left out
abbrev pub unknown_in_filter : List Column → Option Cond → Option (List ℕ)
unknown_in_filter columns None = None
unknown_in_filter columns (Some condition) = unknown_in_cond columns condition
