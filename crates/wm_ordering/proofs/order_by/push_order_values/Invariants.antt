use Rattle.std.proofs.Common.{◌≡◌, ◌++◌, map, drop}
use Rattle.wm_syntax.specs.declared.query.Order.{Order}
use Rattle.wm_syntax.specs.Views.{projection_view}
use Rattle.wm_ordering.specs.RowOrder.{order_value}
use Rattle.wm_ordering.proofs.order_by.push_order_values.Given as goal

-- what is added, and what is left to add
abbrev pub invariant-loop-order : goal.invariant-loop-order
invariant-loop-order l =
    l.keys ++ map (λ (o : Order). order_value (projection_view l.projection) l.columns l.shown o.by) (drop l.order-index l.orders)
    ≡ l.fn.keys ++ map (λ (o : Order). order_value (projection_view l.projection) l.columns l.shown o.by) l.orders
