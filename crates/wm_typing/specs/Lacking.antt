-- The first WM_VALID, in the order of the tokens, whose table has no valid time. What is told of it is the source that stands before it, where one does.
use Rattle.std.specs.Prelude.{ℕ, Bool, ◌||◌, List, Option, None, Some, is_some, if◌then◌else◌}
use Rattle.std.specs.List.{list_any}
use Rattle.std.specs.Option.{option_or}
use Rattle.wm_listing.specs.declared.columns.Column.{Column}
use Rattle.wm_syntax.specs.declared.column.Col.{Col}
use Rattle.wm_syntax.specs.declared.operand.Operand.{Operand}
use Rattle.wm_syntax.specs.declared.operand.Operand.TheVariants as operands
use Rattle.wm_syntax.specs.declared.operand.Per.{Per}
use Rattle.wm_syntax.specs.declared.operand.Per.TheVariants as periods
use Rattle.wm_syntax.specs.Trees.{Expr, Of, Neg, Add, Sub, Mul, Cond, Or, And, Not, Compare, IsNull, OneOf, Between, Set}
use Rattle.wm_spec.specs.Operands.{wm_valid}
use Rattle.wm_typing.specs.Names.{lacks_period}

-- the source that stands before a name, where there may be none
abbrev pub Source : Type 0
Source = Option (List ℕ)

-- ---- expressions and conditions

-- the source of the name, where it is WM_VALID and no column is
abbrev pub lacking_name : List Column → Source → List ℕ → Option Source
lacking_name columns source name = if lacks_period source name columns then Some source else None

abbrev pub lacking_col : List Column → Col → Option Source
lacking_col columns col = lacking_name columns col.source col.name

abbrev pub lacking_period : List Column → Per → Option Source
lacking_period columns (periods.Valid source) = lacking_name columns source wm_valid
lacking_period columns (periods.Span from till) = None

abbrev pub lacking_in_operand : List Column → Operand → Option Source
lacking_in_operand columns (operands.Col col) = lacking_col columns col
lacking_in_operand columns (operands.Const constant) = None
lacking_in_operand columns (operands.Test operator left right) = option_or (lacking_period columns left) (lacking_period columns right)

abbrev pub lacking_in_expr : List Column → Expr → Option Source
lacking_in_expr columns (Of operand) = lacking_in_operand columns operand
lacking_in_expr columns (Neg x) = lacking_in_expr columns x
lacking_in_expr columns (Add x y) = option_or (lacking_in_expr columns x) (lacking_in_expr columns y)
lacking_in_expr columns (Sub x y) = option_or (lacking_in_expr columns x) (lacking_in_expr columns y)
lacking_in_expr columns (Mul x y) = option_or (lacking_in_expr columns x) (lacking_in_expr columns y)

-- the list of an IN has constants alone
abbrev pub lacking_in_cond : List Column → Cond → Option Source
lacking_in_cond columns (Or c d) = option_or (lacking_in_cond columns c) (lacking_in_cond columns d)
lacking_in_cond columns (And c d) = option_or (lacking_in_cond columns c) (lacking_in_cond columns d)
lacking_in_cond columns (Not c) = lacking_in_cond columns c
lacking_in_cond columns (Compare left cmp right) = option_or (lacking_in_operand columns left) (lacking_in_operand columns right)
lacking_in_cond columns (IsNull what negated) = lacking_in_operand columns what
lacking_in_cond columns (OneOf what negated list) = lacking_in_operand columns what
lacking_in_cond columns (Between what negated low high) =
    option_or (lacking_in_operand columns what) (option_or (lacking_in_operand columns low) (lacking_in_operand columns high))

-- the first WM_VALID without valid time in a condition that may be left out
abbrev pub lacking_in_filter : List Column → Option Cond → Option Source
lacking_in_filter columns None = None
lacking_in_filter columns (Some condition) = lacking_in_cond columns condition

-- ---- UPDATE

-- it is set, or in the value that is set
abbrev pub lacks_in_set : List Column → Set → Bool
lacks_in_set columns set = lacks_period None set.name columns || is_some (lacking_in_expr columns set.becomes)

abbrev pub lacks_in_sets : List Column → List Set → Bool
lacks_in_sets columns sets = list_any (λ (set : Set). lacks_in_set columns set) sets
