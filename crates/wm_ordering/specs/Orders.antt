-- The order of lists of values is total, and only a list that is the same is equal.
use Rattle.std.proofs.Common.{◌≡◌, true, List}
use Rattle.std.proofs.lemmas.Cmp.{lists_total, nat_cmp_total, on_total, then_total}
use Rattle.std.specs.Cmp.{Equal-is, IsTotalOrder}
use Rattle.std.specs.Ordering.{is_eq, nat_cmp}
use Rattle.std.specs.declared.cmp.Ordering.TheVariants.{Equal}
use Rattle.wm_base.specs.Orders.{both_equal, lists_exact, value_order-equal, value_order_total}
use Rattle.wm_base.specs.declared.value.Value.{Value}
use Rattle.wm_base.specs.Value.{value_order}
use Rattle.wm_ordering.specs.Sorting.{ascending, left_to_right, null_place}

pub ascending_total : IsTotalOrder ascending
ascending_total = then_total (on_total null_place nat_cmp_total) value_order_total

pub left_to_right_total : IsTotalOrder left_to_right
left_to_right_total = lists_total ascending_total

ascending_exact : (v w : Value) → ascending v w ≡ Equal → v ≡ w
ascending_exact v w e = value_order-equal v w (both_equal (nat_cmp (null_place v) (null_place w)) (value_order v w) e).1

pub same_list : (vs ws : List Value) → is_eq (left_to_right vs ws) ≡ true → vs ≡ ws
same_list vs ws e = lists_exact ascending ascending_exact vs ws ((Equal-is (left_to_right vs ws)).0 e)
