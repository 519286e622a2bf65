use Rattle.std.proofs.Common.{sym, ◌∙◌}
use Rattle.wm_heap.specs.Slots.{slot}
use Rattle.wm_heap.proofs.Packed.{behind_more}
use Rattle.wm_heap.proofs.reading.behind.Goals as goal

pub loop-preserved : goal.loop-preserved
loop-preserved c = sym (behind_more slot c.args.count c.loop.counter c.loop.rest.now c.in_ok-after.after.now _ c.loop-test.true (sym c.in_ok-after.ensures)) ∙ c.loop.invariant
