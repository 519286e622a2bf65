-- How values are put in order, a stable sort, and a list without repeats.
use Rattle.std.specs.Prelude.{ℕ, Bool, if◌then◌else◌, List, [], ◌∷◌}
use Rattle.std.specs.Ordering.{nat_cmp, ordering_then, is_lt, is_eq}
use Rattle.std.specs.declared.cmp.Ordering.{Ordering}
use Rattle.std.specs.declared.cmp.Ordering.TheVariants.{Equal}
use Rattle.std.specs.Cmp.Lexicographic.{slice_cmp}
use Rattle.wm_base.specs.declared.value.Value.{Value}
use Rattle.wm_base.specs.declared.value.Value.TheVariants as values
use Rattle.wm_base.specs.Value.{value_order}

-- NULL stands behind all else
abbrev pub null_place : Value → ℕ
null_place values.Null = 1
null_place _ = 0

-- numbers and times as numbers, texts by their bytes, periods by from and then till, NULL last
abbrev pub ascending : Value → Value → Ordering
ascending v w = ordering_then (nat_cmp (null_place v) (null_place w)) (value_order v w)

-- in descending order all is turned round, and NULL comes first
abbrev pub directed : Bool → Value → Value → Ordering
directed descending v w = if descending then ascending w v else ascending v w

abbrev pub first_value : List Value → Value
first_value [] = values.Null
first_value (v ∷ vs) = v

abbrev pub other_values : List Value → List Value
other_values [] = []
other_values (v ∷ vs) = vs

-- by the first value in its direction, then by the second, and so on
abbrev pub by_directions : List Bool → List Value → List Value → Ordering
by_directions [] vs ws = Equal
by_directions (descending ∷ directions) vs ws =
    ordering_then (directed descending (first_value vs) (first_value ws)) (by_directions directions (other_values vs) (other_values ws))

-- values from left to right, each ascending
abbrev pub left_to_right : List Value → List Value → Ordering
left_to_right = slice_cmp ascending

-- an element in its place, before those that are not below it
abbrev pub placed : {X : Type 0} → (X → X → Bool) → X → List X → List X
placed lt x [] = x ∷ []
placed lt x (y ∷ ys) = if lt y x then y ∷ placed lt x ys else x ∷ y ∷ ys

-- the elements in order; what the order does not tell apart stays as it stood
abbrev pub sorted : {X : Type 0} → (X → X → Bool) → List X → List X
sorted lt [] = []
sorted lt (x ∷ xs) = placed lt x (sorted lt xs)

-- the elements behind one that stays, without those that are the same as the last that stays
abbrev pub changes_from : {X : Type 0} → (X → X → Bool) → X → List X → List X
changes_from same x [] = []
changes_from same x (y ∷ ys) = if same x y then changes_from same x ys else y ∷ changes_from same y ys

-- the elements that are not the same as the last one that stays
abbrev pub changes : {X : Type 0} → (X → X → Bool) → List X → List X
changes same [] = []
changes same (x ∷ xs) = x ∷ changes_from same x xs

-- the values of one go before those of another, each in its direction
abbrev pub goes_by : {X : Type 0} → List Bool → (X → List Value) → X → X → Bool
goes_by directions key x y = is_lt (by_directions directions (key x) (key y))

-- the values of one stand before those of another
abbrev pub stands_before : {X : Type 0} → (X → List Value) → X → X → Bool
stands_before key x y = is_lt (left_to_right (key x) (key y))

abbrev pub has_values_of : {X : Type 0} → (X → List Value) → X → X → Bool
has_values_of key x y = is_eq (left_to_right (key x) (key y))

-- of the elements with one list of values the first, in ascending order of these lists
abbrev pub distinct_by : {X : Type 0} → (X → List Value) → List X → List X
distinct_by key xs = changes (has_values_of key) (sorted (stands_before key) xs)
