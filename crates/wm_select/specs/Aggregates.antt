-- Aggregates of the values that an expression has on the rows of a group. NULL is skipped.
use Rattle.std.specs.Prelude.{not, ◌==◌, if◌then◌else◌, List, [], ◌∷◌, length, filter, Option, Some, None, option_map, ℤ, pos, ◌+ℤ◌, unwrap_or}
use Rattle.std.specs.Ordering.{is_lt, is_gt}
use Rattle.wm_syntax.specs.declared.query.Agg.{Agg}
use Rattle.wm_syntax.specs.declared.query.Agg.TheVariants as aggs
use Rattle.wm_base.specs.declared.value.Value.{Value}
use Rattle.wm_base.specs.declared.value.Value.TheVariants as values
use Rattle.wm_base.specs.Value.{value_order}
use Rattle.wm_spec.specs.Conditions.{is_null}
use Rattle.wm_spec.specs.Expressions.{number_of, number_value, in_range}

abbrev pub present : List Value → List Value
present vs = filter (λ v. not (is_null v)) vs

-- the sum of numbers
abbrev pub total : List Value → ℤ
total [] = pos 0
total (v ∷ vs) = unwrap_or (number_of v) (pos 0) +ℤ total vs

-- the sum where it is in range, NULL of nothing
abbrev pub sum_of : List Value → Option Value
sum_of vs = if length vs == 0 then Some values.Null else option_map number_value (in_range (total vs))

-- the least of a value and others
abbrev pub least_from : Value → List Value → Value
least_from v [] = v
least_from v (w ∷ ws) = least_from (if is_lt (value_order w v) then w else v) ws

abbrev pub least : List Value → Value
least [] = values.Null
least (v ∷ vs) = least_from v vs

-- the greatest of a value and others
abbrev pub greatest_from : Value → List Value → Value
greatest_from v [] = v
greatest_from v (w ∷ ws) = greatest_from (if is_gt (value_order w v) then w else v) ws

abbrev pub greatest : List Value → Value
greatest [] = values.Null
greatest (v ∷ vs) = greatest_from v vs

-- what an aggregate makes of the values, and nothing where their sum is out of range
abbrev pub aggregated : Agg → List Value → Option Value
aggregated aggs.Count vs = Some (values.Num (pos (length (present vs))))
aggregated aggs.Sum vs = sum_of (present vs)
aggregated aggs.Min vs = Some (least (present vs))
aggregated aggs.Max vs = Some (greatest (present vs))

-- the least of others beside one that is the least so far, where there is one
abbrev pub least_beside : Option Value → List Value → Value
least_beside None vs = least vs
least_beside (Some v) vs = least_from v vs

-- the greatest, likewise
abbrev pub greatest_beside : Option Value → List Value → Value
greatest_beside None vs = greatest vs
greatest_beside (Some v) vs = greatest_from v vs
