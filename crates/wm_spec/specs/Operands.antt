-- The columns that a condition or an expression names, and what its operands are for a row of these columns.
use Rattle.std.specs.Prelude.{ℕ, Bool, true, false, ◌&&◌, ◌||◌, ◌==◌, List, [], ◌∷◌, count_by, slice_get, Option, Some, None, option_and_then, option_map, unwrap_or, bytes_eq, codes, if◌then◌else◌, pos}
use Rattle.std.specs.List.{position}
use Rattle.wm_listing.specs.declared.columns.Column.{Column}
use Rattle.wm_syntax.specs.declared.column.Suffix.{Suffix}
use Rattle.wm_syntax.specs.declared.column.Suffix.TheVariants.{ValidFrom, ValidTill}
use Rattle.wm_syntax.specs.declared.constant.PeriodEnd.{PeriodEnd}
use Rattle.wm_syntax.specs.declared.constant.PeriodEnd.TheVariants as ends
use Rattle.wm_syntax.specs.declared.constant.Const.{Const}
use Rattle.wm_syntax.specs.declared.constant.Const.TheVariants as constants
use Rattle.wm_syntax.specs.declared.operand.Per.{Per}
use Rattle.wm_syntax.specs.declared.operand.Per.TheVariants as periods
use Rattle.wm_syntax.specs.declared.operand.Operator.{Operator}
use Rattle.wm_syntax.specs.declared.operand.Operator.TheVariants.{Overlaps, Contains, Meets, Equals, LessThan, GreaterThan}
use Rattle.wm_syntax.specs.declared.operand.Operand.{Operand}
use Rattle.wm_syntax.specs.declared.operand.Operand.TheVariants as operands
use Rattle.wm_base.specs.declared.value.Value.{Value}
use Rattle.wm_base.specs.declared.value.Value.TheVariants as values
use Rattle.wm_base.specs.Period.{Span, overlaps, contains, meets, equals, before, after}
use Rattle.wm_base.specs.Value.{type_place}

-- ---- names

-- the source is the one that is named, where one is
abbrev pub is_of_source : Option (List ℕ) → Column → Bool
is_of_source None column = true
is_of_source (Some source) column = bytes_eq source column.source

-- the column has that name, and that source where one is named
abbrev pub is_named : Option (List ℕ) → List ℕ → Column → Bool
is_named source name column = is_of_source source column && bytes_eq name column.name

-- the name of the column of periods
abbrev pub wm_valid : List ℕ
wm_valid = codes "WM_VALID"

-- ---- types: 0 for NULL, 1 for numbers, 2 for texts, 3 for times, 4 for periods

-- the kind of the one column that is named, and nothing where there is none or more than one
abbrev pub kind_of : Option (List ℕ) → List ℕ → List Column → Option ℕ
kind_of source name columns =
    if count_by (λ column. is_named source name column) columns == 1
    then option_and_then (λ place. option_map (λ column. column.kind) (slice_get columns place)) (position (λ column. is_named source name column) columns)
    else None

-- an end of a period is a time, and nothing else has ends
abbrev pub suffixed_kind : Option Suffix → Option ℕ → Option ℕ
suffixed_kind None kind = kind
suffixed_kind (Some suffix) (Some kind) = if kind == 4 then Some 3 else None
suffixed_kind (Some suffix) None = None

abbrev pub constant_kind : Const → ℕ
constant_kind constants.Null = 0
constant_kind (constants.Num n) = 1
constant_kind (constants.Text t) = 2
constant_kind (constants.Time i) = 3
constant_kind constants.Sysdate = 3
constant_kind (constants.Span from till) = 4

-- a period that is written, or the one column WM_VALID of its source, which is a column of periods
abbrev pub is_period : Per → List Column → Bool
is_period (periods.Valid source) columns = unwrap_or (option_and_then (λ kind. Some (kind == 4)) (kind_of source wm_valid columns)) false
is_period (periods.Span from till) columns = true

-- the type of an operand, and nothing where it names what is none of the columns
abbrev pub operand_kind : Operand → List Column → Option ℕ
operand_kind (operands.Col col) columns = suffixed_kind col.suffix (kind_of col.source col.name columns)
operand_kind (operands.Const constant) columns = Some (constant_kind constant)
operand_kind (operands.Test operator left right) columns = if is_period left columns && is_period right columns then Some 1 else None

-- a row fits its columns: it has one value for each, and each is NULL or of the column's kind
abbrev pub fits_columns : List Column → List Value → Bool
fits_columns [] [] = true
fits_columns (column ∷ columns) (value ∷ row) = ((type_place value == 0) || (type_place value == column.kind)) && fits_columns columns row
fits_columns _ _ = false

-- ---- values

-- the value of the row at the first column that is named
abbrev pub found_at : Option (List ℕ) → List ℕ → List Column → List Value → Option Value
found_at source name columns row = option_and_then (λ place. slice_get row place) (position (λ column. is_named source name column) columns)

-- that value, NULL where there is none
abbrev pub value_at : Option (List ℕ) → List ℕ → List Column → List Value → Value
value_at source name columns row = unwrap_or (found_at source name columns row) values.Null

-- the end of a period that a suffix names; NULL has none
abbrev pub suffixed : Option Suffix → Value → Value
suffixed None value = value
suffixed (Some ValidFrom) (values.Span period) = values.Time period.from
suffixed (Some ValidTill) (values.Span period) = values.Time period.till
suffixed (Some suffix) value = values.Null

-- the moment of the line stands in the place of each SYSDATE before anything is evaluated: what it gives here is met nowhere
abbrev pub end_seconds : PeriodEnd → ℕ
end_seconds (ends.Time seconds) = seconds
end_seconds ends.Sysdate = 0

abbrev pub span_between : PeriodEnd → PeriodEnd → Span
span_between from till = record { from = end_seconds from; till = end_seconds till }

abbrev pub constant_value : Const → Value
constant_value constants.Null = values.Null
constant_value (constants.Num n) = values.Num n
constant_value (constants.Text t) = values.Text t
constant_value (constants.Time seconds) = values.Time seconds
constant_value constants.Sysdate = values.Null
constant_value (constants.Span from till) = values.Span (span_between from till)

-- the period that a value is
abbrev pub period_of : Value → Option Span
period_of (values.Span period) = Some period
period_of _ = None

-- the operators read the ends alone, so a written period may have its ends in any order
abbrev pub period_at : Per → List Column → List Value → Option Span
period_at (periods.Valid source) columns row = period_of (value_at source wm_valid columns row)
period_at (periods.Span from till) columns row = Some (span_between from till)

abbrev pub holds : Operator → Span → Span → Bool
holds Overlaps p q = overlaps p q
holds Contains p q = contains p q
holds Meets p q = meets p q
holds Equals p q = equals p q
holds LessThan p q = before p q
holds GreaterThan p q = after p q

-- 1 where the operator holds, else 0, and NULL where an operand is NULL
abbrev pub tested : Operator → Option Span → Option Span → Value
tested operator (Some p) (Some q) = values.Num (pos (if holds operator p q then 1 else 0))
tested operator _ _ = values.Null

abbrev pub operand_value : Operand → List Column → List Value → Value
operand_value (operands.Col col) columns row = suffixed col.suffix (value_at col.source col.name columns row)
operand_value (operands.Const constant) columns row = constant_value constant
operand_value (operands.Test operator left right) columns row = tested operator (period_at left columns row) (period_at right columns row)
