use Rattle.std.proofs.Common.{arith}
use Rattle.wm_cells.proofs.Counting.{counts_below, counts_more}
use Rattle.wm_cells.proofs.counts.counts_of.Goals as goal

pub overflow_add-count : goal.overflow_add-count
overflow_add-count g c =
    omega (arith, counts_below g.T.Placed.space_of c.args.items.now c.loop-item.item-index c.loop-item.counts.entries _ _ c.loop-item.invariant c.count_of-count.ensures, c.loop-item-test.true)

pub loop-item-preserved : goal.loop-item-preserved
loop-item-preserved g c =
    counts_more g.T.Placed.space_of c.args.items.now c.loop-item.item-index c.item-item.result c.loop-item.counts.entries c.insert.new.self.entries c.space-space.result _ c.loop-item-test.true c.item-item.is c.space-space.ensures c.loop-item.invariant c.count_of-count.ensures c.in_ok-insert.ensures.updates.0
