use Rattle.std.proofs.Common.{arith}
use Rattle.wm_cells.proofs.Neighbours.{all_differ}
use Rattle.wm_cells.specs.Order.{alike}
use Rattle.wm_cells.proofs.distinct.neighbours_differ.Goals as goal

pub returns : goal.returns
returns g c = all_differ (alike g.T.Ordered.order_of) c.args.items.now c.loop-place.place (omega arith) c.loop-place.invariant
