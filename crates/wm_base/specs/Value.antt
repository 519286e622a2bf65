-- Values: their types, their weights, and their order.
use Rattle.std.specs.Prelude.{ℕ, ◌+◌, Option, Some, None, Bool, length, ◌||◌, ◌==◌, unwrap_or}
use Rattle.std.specs.declared.cmp.Ordering.{Ordering}
use Rattle.std.specs.declared.cmp.Ordering.TheVariants.{Equal}
use Rattle.std.specs.Ordering.{nat_cmp, int_cmp, ordering_then}
use Rattle.std.specs.Cmp.Lexicographic.{slice_cmp}
use Rattle.wm_base.specs.Period.{span_order}
use Rattle.wm_base.specs.declared.value.Value.{Value}
use Rattle.wm_base.specs.declared.value.Value.TheVariants.{Null, Num, Text, Time, Span}

-- the type of a value, by its place among the types: NULL, number, text, time, period
abbrev pub type_place : Value → ℕ
type_place Null = 0
type_place (Num n) = 1
type_place (Text t) = 2
type_place (Time i) = 3
type_place (Span p) = 4

-- two values may be compared: NULL is of every type
abbrev pub same_type : Value → Value → Bool
same_type v w = (type_place v == 0) || ((type_place w == 0) || (type_place v == type_place w))

-- how two values of one type compare, and nothing where one is NULL:
-- numbers and times as numbers, texts by their bytes, periods by from and then till
abbrev pub compare_of : Value → Value → Option Ordering
compare_of (Num m) (Num n) = Some (int_cmp m n)
compare_of (Text s) (Text t) = Some (slice_cmp nat_cmp s t)
compare_of (Time i) (Time j) = Some (nat_cmp i j)
compare_of (Span p) (Span q) = Some (span_order p q)
compare_of _ _ = None

-- the order of all values: by type, and within a type as they compare; NULL is equal to NULL
abbrev pub value_order : Value → Value → Ordering
value_order v w = ordering_then (nat_cmp (type_place v) (type_place w)) (unwrap_or (compare_of v w) Equal)

-- what a value weighs
abbrev pub weight_of : Value → ℕ
weight_of Null = 1
weight_of (Num n) = 9
weight_of (Text t) = 3 + length t
weight_of (Time i) = 9
weight_of (Span p) = 17
