use Rattle.std.proofs.Common.{◌≡◌, ◌++◌, map, drop}
use Rattle.wm_syntax.specs.Views.{query_view}
use Rattle.wm_ordering.specs.RowOrder.{order_values}
use Rattle.wm_ordering.proofs.order_by.push_all_values.Given as goal

-- what is added, and what is left to add
abbrev pub invariant-loop-one : goal.invariant-loop-one
invariant-loop-one l =
    l.keys.items ++ map (order_values (query_view l.query) l.columns) (drop l.one-index l.shown)
    ≡ l.fn.keys.items ++ map (order_values (query_view l.query) l.columns) l.shown
