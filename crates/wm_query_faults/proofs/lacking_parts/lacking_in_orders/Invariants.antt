use Rattle.std.proofs.Common.{◌≡◌, drop}
use Rattle.wm_syntax.specs.Views.{projection_view}
use Rattle.wm_query_faults.specs.Lacking.{lacking_in_orders}
use Rattle.wm_query_faults.proofs.lacking_parts.lacking_in_orders.Given as goal

abbrev pub invariant-loop-order : goal.invariant-loop-order
invariant-loop-order l = lacking_in_orders l.columns (projection_view l.projection) (drop l.order-index l.orders) ≡ lacking_in_orders l.columns (projection_view l.projection) l.orders
