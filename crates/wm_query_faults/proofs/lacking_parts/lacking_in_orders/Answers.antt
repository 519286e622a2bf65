use Rattle.std.proofs.Common.{refl}
use Rattle.wm_syntax.specs.Views.{projection_view}
use Rattle.wm_syntax.specs.declared.query.Order.{Order}
use Rattle.wm_query_faults.specs.Lacking.{lacking_by, lacking_in_orders}
use Rattle.wm_typing.proofs.Firsts.{found_here}
use Rattle.wm_query_faults.proofs.lacking_parts.lacking_in_orders.Goals as goal

pub returns-in-Some : goal.returns-in-Some
returns-in-Some c =
    found_here (λ orders. lacking_in_orders c.args.columns.now (projection_view c.args.projection.now) orders) (λ (order : Order). lacking_by c.args.columns.now (projection_view c.args.projection.now) order.by)
    (λ order rest. lacking_in_orders c.args.columns.now (projection_view c.args.projection.now) rest) (λ order rest. refl)
    c.args.orders.now c.loop-order.order-index c.order-item.result _ _ c.loop-order-test.true c.order-item.is c.loop-order.invariant c.in-Some.ensures
