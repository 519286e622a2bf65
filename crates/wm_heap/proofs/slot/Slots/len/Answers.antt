use Rattle.std.proofs.Common.{length, ap, ◌∙◌}
use Rattle.wm_heap.proofs.slot.Slots.len.Goals as goal

pub returns : goal.returns
returns c = c.self.invariant.count_is ∙ ap length c.self.view_is
