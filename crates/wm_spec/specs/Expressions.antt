-- Expressions: the value that they have for a row.
use Rattle.std.specs.Prelude.{Bool, true, ◌&&◌, ◌^◌, nat_lt, List, Option, Some, None, option_map, if◌then◌else◌, ℤ, pos, negsuc, neg_ℤ, ◌+ℤ◌, ◌-ℤ◌, ◌*ℤ◌}
use Rattle.wm_listing.specs.declared.columns.Column.{Column}
use Rattle.wm_base.specs.declared.row.Row.{Row}
use Rattle.wm_syntax.specs.declared.constant.Const.TheVariants as constants
use Rattle.wm_syntax.specs.declared.operand.Operand.{Operand}
use Rattle.wm_syntax.specs.declared.operand.Operand.TheVariants as operands
use Rattle.wm_base.specs.declared.value.Value.{Value}
use Rattle.wm_base.specs.declared.value.Value.TheVariants as values
use Rattle.wm_syntax.specs.Trees.{Expr, Of, Neg, Add, Sub, Mul}
use Rattle.wm_spec.specs.Operands.{end_seconds, operand_value}

-- the number is from -2^63 to 2^63 - 1
abbrev pub is_i64 : ℤ → Bool
is_i64 (pos n) = nat_lt n (2 ^ 63)
is_i64 (negsuc n) = nat_lt n (2 ^ 63)

-- the number that a value is, and nothing for NULL
abbrev pub number_of : Value → Option ℤ
number_of (values.Num n) = Some n
number_of _ = None

abbrev pub number_value : Option ℤ → Value
number_value (Some n) = values.Num n
number_value None = values.Null

-- the number, where it is in range
abbrev pub in_range : ℤ → Option (Option ℤ)
in_range n = if is_i64 n then Some (Some n) else None

-- the number less than nothing; NULL gives NULL
abbrev pub negative : Option (Option ℤ) → Option (Option ℤ)
negative (Some (Some n)) = in_range (neg_ℤ n)
negative (Some None) = Some None
negative None = None

-- what two numbers give together; NULL where one of them is NULL
abbrev pub together : (ℤ → ℤ → ℤ) → Option (Option ℤ) → Option (Option ℤ) → Option (Option ℤ)
together f (Some (Some m)) (Some (Some n)) = in_range (f m n)
together f (Some m) (Some n) = Some None
together f _ _ = None

-- the number that an expression has, or NULL, and nothing at all where some number on the way is out of range
abbrev pub number_in : Expr → List Column → List Value → Option (Option ℤ)
number_in (Of operand) columns row = Some (number_of (operand_value operand columns row))
number_in (Neg x) columns row = negative (number_in x columns row)
number_in (Add x y) columns row = together (λ m n. m +ℤ n) (number_in x columns row) (number_in y columns row)
number_in (Sub x y) columns row = together (λ m n. m -ℤ n) (number_in x columns row) (number_in y columns row)
number_in (Mul x y) columns row = together (λ m n. m *ℤ n) (number_in x columns row) (number_in y columns row)

-- an operand is its value, and all else is a number or NULL
abbrev pub value_in : Expr → List Column → List Value → Option Value
value_in (Of operand) columns row = Some (operand_value operand columns row)
value_in (Neg x) columns row = option_map number_value (number_in (Neg x) columns row)
value_in (Add x y) columns row = option_map number_value (number_in (Add x y) columns row)
value_in (Sub x y) columns row = option_map number_value (number_in (Sub x y) columns row)
value_in (Mul x y) columns row = option_map number_value (number_in (Mul x y) columns row)

-- the value of the expression for the row, and nothing exactly where some number on the way is out of range
unfoldable pub value_of : Expr → List Column → Row → Option Value
value_of expression columns row = value_in expression columns row.values

-- an operand that is a written period has its first end below its second
abbrev pub lasts : Operand → Bool
lasts (operands.Const (constants.Span from till)) = nat_lt (end_seconds from) (end_seconds till)
lasts _ = true

-- each operand of the expression that is a written period has its first end below its second
abbrev pub has_no_empty_period : Expr → Bool
has_no_empty_period (Of operand) = lasts operand
has_no_empty_period (Neg x) = has_no_empty_period x
has_no_empty_period (Add x y) = has_no_empty_period x && has_no_empty_period y
has_no_empty_period (Sub x y) = has_no_empty_period x && has_no_empty_period y
has_no_empty_period (Mul x y) = has_no_empty_period x && has_no_empty_period y
