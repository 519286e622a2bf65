use Rattle.std.proofs.Common.{◌≡◌, ◌-◌, drop}
use Rattle.wm_cells.specs.Lookups.{referred}
use Rattle.wm_cells.specs.Order.{alike, neighbours_differ}
use Rattle.wm_cells.proofs.distinct.neighbours_differ.Given as goal

abbrev pub invariant-loop-place : goal.invariant-loop-place
invariant-loop-place g l = neighbours_differ (alike g.T.Ordered.order_of) (referred l.items) ≡ neighbours_differ (alike g.T.Ordered.order_of) (referred (drop (l.place - 1) l.items))
