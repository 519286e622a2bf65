use Rattle.std.proofs.Common.{◌≡◌, drop}
use Rattle.wm_syntax.specs.Views.{projection_view}
use Rattle.wm_query_faults.specs.Items.{unknown_in_orders}
use Rattle.wm_query_faults.proofs.orders.unknown_in_orders.Given as goal

abbrev pub invariant-loop-order : goal.invariant-loop-order
invariant-loop-order l =
    unknown_in_orders l.columns l.shown (projection_view l.projection) (drop l.order-index l.orders) ≡ unknown_in_orders l.columns l.shown (projection_view l.projection) l.orders
