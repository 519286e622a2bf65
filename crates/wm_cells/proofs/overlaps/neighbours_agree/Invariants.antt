use Rattle.std.proofs.Common.{◌≡◌, ◌-◌, drop}
use Rattle.wm_cells.specs.Lookups.{referred}
use Rattle.wm_cells.specs.Order.{neighbours_differ, overlap}
use Rattle.wm_cells.proofs.overlaps.neighbours_agree.Given as goal

abbrev pub invariant-loop-place : goal.invariant-loop-place
invariant-loop-place g l =
    neighbours_differ (overlap g.T.Ordered.order_of g.T.Lasting.cells_of) (referred l.items) ≡ neighbours_differ (overlap g.T.Ordered.order_of g.T.Lasting.cells_of) (referred (drop (l.place - 1) l.items))
