-- The first mark whose operands have no type that it takes, in the order of the tokens. NULL is of every type.
use Rattle.std.specs.Prelude.{ℕ, Bool, true, false, ◌&&◌, ◌||◌, ◌==◌, List, Option, None, Some, codes}
use Rattle.std.specs.List.{list_all}
use Rattle.std.specs.Option.{option_or}
use Rattle.wm_listing.specs.declared.columns.Column.{Column}
use Rattle.wm_syntax.specs.declared.cond.Cmp.{Cmp}
use Rattle.wm_syntax.specs.declared.cond.Cmp.TheVariants.{Eq, NotEq, BangEq, Lt, Le, Gt, Ge}
use Rattle.wm_syntax.specs.Trees.{Expr, Of, Neg, Add, Sub, Mul, Cond, Or, And, Not, Compare, IsNull, OneOf, Between}
use Rattle.wm_spec.specs.Conditions.{may_compare, typed}
use Rattle.wm_spec.specs.Operands.{constant_kind}
use Rattle.wm_typing.specs.Names.{named_kind, unless}

-- ---- expressions

-- the type of an expression: an operand's own, and that of numbers for arithmetic; nothing where an operand names what is not there
abbrev pub expr_kind : List Column → Expr → Option ℕ
expr_kind columns (Of operand) = named_kind operand columns
expr_kind columns (Neg x) = Some 1
expr_kind columns (Add x y) = Some 1
expr_kind columns (Sub x y) = Some 1
expr_kind columns (Mul x y) = Some 1

-- numbers, or NULL
abbrev pub is_number : Option ℕ → Bool
is_number None = false
is_number (Some kind) = (kind == 0) || (kind == 1)

-- the expression is a number, or NULL
abbrev pub is_numeric : List Column → Expr → Bool
is_numeric columns x = is_number (expr_kind columns x)

-- a mark before its operand stands before the marks in it, and a mark between two operands stands behind the marks of the first
abbrev pub mistyped_in_expr : List Column → Expr → Option (List ℕ)
mistyped_in_expr columns (Of operand) = None
mistyped_in_expr columns (Neg x) = option_or (unless (is_numeric columns x) (codes "-")) (mistyped_in_expr columns x)
mistyped_in_expr columns (Add x y) =
    option_or (mistyped_in_expr columns x) (option_or (unless (is_numeric columns x && is_numeric columns y) (codes "+")) (mistyped_in_expr columns y))
mistyped_in_expr columns (Sub x y) =
    option_or (mistyped_in_expr columns x) (option_or (unless (is_numeric columns x && is_numeric columns y) (codes "-")) (mistyped_in_expr columns y))
mistyped_in_expr columns (Mul x y) =
    option_or (mistyped_in_expr columns x) (option_or (unless (is_numeric columns x && is_numeric columns y) (codes "*")) (mistyped_in_expr columns y))

-- ---- conditions

abbrev pub mark_text : Cmp → List ℕ
mark_text Eq = codes "="
mark_text NotEq = codes "<>"
mark_text BangEq = codes "!="
mark_text Lt = codes "<"
mark_text Le = codes "<="
mark_text Gt = codes ">"
mark_text Ge = codes ">="

-- a comparison of two types, or of periods; IN and BETWEEN stand for several comparisons
abbrev pub mistyped_in_cond : List Column → Cond → Option (List ℕ)
mistyped_in_cond columns (Or c d) = option_or (mistyped_in_cond columns c) (mistyped_in_cond columns d)
mistyped_in_cond columns (And c d) = option_or (mistyped_in_cond columns c) (mistyped_in_cond columns d)
mistyped_in_cond columns (Not c) = mistyped_in_cond columns c
mistyped_in_cond columns (Compare left cmp right) = unless (may_compare (named_kind left columns) (named_kind right columns)) (mark_text cmp)
mistyped_in_cond columns (IsNull what negated) = None
mistyped_in_cond columns (OneOf what negated list) =
    unless (list_all (λ constant. may_compare (named_kind what columns) (Some (constant_kind constant))) list) (codes "IN")
mistyped_in_cond columns (Between what negated low high) =
    unless (may_compare (named_kind what columns) (named_kind low columns) && may_compare (named_kind what columns) (named_kind high columns)) (codes "BETWEEN")

-- what is of a wrong type first in a condition that may be left out
abbrev pub mistyped_in_filter : List Column → Option Cond → Option (List ℕ)
mistyped_in_filter columns None = None
mistyped_in_filter columns (Some condition) = mistyped_in_cond columns condition

-- the condition is typed for the columns, where there is one
abbrev pub is_filter_typed : List Column → Option Cond → Bool
is_filter_typed columns None = true
is_filter_typed columns (Some condition) = typed condition columns
