use Rattle.std.proofs.Common.{arith}
use Rattle.wm_cells.proofs.Neighbours.{all_differ}
use Rattle.wm_cells.specs.Order.{overlap}
use Rattle.wm_cells.proofs.overlaps.neighbours_agree.Goals as goal

pub returns : goal.returns
returns g c = all_differ (overlap g.T.Ordered.order_of g.T.Lasting.cells_of) c.args.items.now c.loop-place.place (omega arith) c.loop-place.invariant
