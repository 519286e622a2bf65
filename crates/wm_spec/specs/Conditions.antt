-- Conditions: whether they are typed for some columns, and how true they are for a row.
use Rattle.std.specs.Prelude.{ℕ, Bool, true, false, ◌&&◌, ◌||◌, not, ◌==◌, List, [], ◌∷◌, Option, Some, None, is_some}
use Rattle.std.specs.List.{list_all}
use Rattle.std.specs.declared.cmp.Ordering.{Ordering}
use Rattle.std.specs.Ordering.{is_eq, is_lt, is_gt}
use Rattle.wm_listing.specs.declared.columns.Column.{Column}
use Rattle.wm_base.specs.declared.row.Row.{Row}
use Rattle.wm_syntax.specs.declared.cond.Cmp.{Cmp}
use Rattle.wm_syntax.specs.declared.cond.Cmp.TheVariants.{Eq, NotEq, BangEq, Lt, Le, Gt, Ge}
use Rattle.wm_syntax.specs.declared.constant.Const.{Const}
use Rattle.wm_base.specs.declared.truth.Truth.{Truth}
use Rattle.wm_base.specs.declared.truth.Truth.TheVariants.{Yes, No, Unknown}
use Rattle.wm_base.specs.declared.value.Value.{Value}
use Rattle.wm_base.specs.declared.value.Value.TheVariants as values
use Rattle.wm_syntax.specs.Trees.{Cond, Or, And, Not, Compare, IsNull, OneOf, Between}
use Rattle.wm_base.specs.Truth.{truth_and, truth_or, truth_not}
use Rattle.wm_base.specs.Value.{compare_of}
use Rattle.wm_spec.specs.Operands.{operand_kind, operand_value, constant_kind, constant_value, fits_columns}

-- ---- types

-- two types are one, which is not that of periods; NULL is of every type
abbrev pub is_one_type : ℕ → ℕ → Bool
is_one_type k l = (not (k == 4) && not (l == 4)) && ((k == 0) || ((l == 0) || (k == l)))

-- two operands may be compared: both name columns that are there, and they have one type
abbrev pub may_compare : Option ℕ → Option ℕ → Bool
may_compare (Some k) (Some l) = is_one_type k l
may_compare _ _ = false

-- each column that the condition names is one of these, and the operands of each comparison have one type, which is not that of periods
abbrev pub typed_in : Cond → List Column → Bool
typed_in (Or c d) columns = typed_in c columns && typed_in d columns
typed_in (And c d) columns = typed_in c columns && typed_in d columns
typed_in (Not c) columns = typed_in c columns
typed_in (Compare left cmp right) columns = may_compare (operand_kind left columns) (operand_kind right columns)
typed_in (IsNull what negated) columns = is_some (operand_kind what columns)
typed_in (OneOf what negated list) columns =
    is_some (operand_kind what columns) && list_all (λ constant. may_compare (operand_kind what columns) (Some (constant_kind constant))) list
typed_in (Between what negated low high) columns =
    may_compare (operand_kind what columns) (operand_kind low columns) && may_compare (operand_kind what columns) (operand_kind high columns)

unfoldable pub typed : Cond → List Column → Bool
typed condition columns = typed_in condition columns

-- ---- truth

abbrev pub is_met : Cmp → Ordering → Bool
is_met Eq order = is_eq order
is_met NotEq order = not (is_eq order)
is_met BangEq order = not (is_eq order)
is_met Lt order = is_lt order
is_met Le order = not (is_gt order)
is_met Gt order = is_gt order
is_met Ge order = not (is_lt order)

abbrev pub truth_if : Bool → Truth
truth_if true = Yes
truth_if false = No

-- a comparison with NULL, which gives no order, is unknown
abbrev pub compared : Cmp → Option Ordering → Truth
compared mark None = Unknown
compared mark (Some order) = truth_if (is_met mark order)

abbrev pub test : Cmp → Value → Value → Truth
test mark v w = compared mark (compare_of v w)

abbrev pub is_null : Value → Bool
is_null values.Null = true
is_null _ = false

-- v IN (a, b) is v = a OR v = b
abbrev pub one_of : Value → List Const → Truth
one_of v [] = No
one_of v (constant ∷ list) = truth_or (test Eq v (constant_value constant)) (one_of v list)

-- v BETWEEN a AND b is v >= a AND v <= b
abbrev pub between : Value → Value → Value → Truth
between v a b = truth_and (test Ge v a) (test Le v b)

-- with a NOT before it where one stands there
abbrev pub negated_if : Bool → Truth → Truth
negated_if false truth = truth
negated_if true truth = truth_not truth

abbrev pub truth_in : Cond → List Column → List Value → Truth
truth_in (Or c d) columns row = truth_or (truth_in c columns row) (truth_in d columns row)
truth_in (And c d) columns row = truth_and (truth_in c columns row) (truth_in d columns row)
truth_in (Not c) columns row = truth_not (truth_in c columns row)
truth_in (Compare left mark right) columns row = test mark (operand_value left columns row) (operand_value right columns row)
truth_in (IsNull what negated) columns row = negated_if negated (truth_if (is_null (operand_value what columns row)))
truth_in (OneOf what negated list) columns row = negated_if negated (one_of (operand_value what columns row) list)
truth_in (Between what negated low high) columns row =
    negated_if negated (between (operand_value what columns row) (operand_value low columns row) (operand_value high columns row))

-- how true the condition is for the row
unfoldable pub truth_of : Cond → List Column → Row → Truth
truth_of condition columns row = truth_in condition columns row.values

-- the row is kept: the condition is true, and not merely unknown
abbrev pub is_yes : Truth → Bool
is_yes Yes = true
is_yes No = false
is_yes Unknown = false

-- the row has a value of its kind, or NULL, for each column
unfoldable pub fits : List Column → Row → Bool
fits columns row = fits_columns columns row.values
