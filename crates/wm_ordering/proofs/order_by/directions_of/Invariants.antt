use Rattle.std.proofs.Common.{◌≡◌, take}
use Rattle.wm_ordering.specs.RowOrder.{directions_of}
use Rattle.wm_ordering.proofs.order_by.directions_of.Given as goal

abbrev pub invariant-loop-order : goal.invariant-loop-order
invariant-loop-order l = l.directions.items ≡ directions_of (take l.order-index l.orders)
