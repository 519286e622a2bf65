use Rattle.wm_heap.proofs.Fronts.{slots_at-none}
use Rattle.std.proofs.Common.{refl}
use Rattle.wm_heap.proofs.Packed.{packed_empty}
use Rattle.wm_heap.proofs.slot.Slots.new.Goals as goal

pub invariant_of-result : goal.invariant_of-result
invariant_of-result c = packed_empty c.new.result.items c.new.ensures.items

pub returns : goal.returns
returns c = slots_at-none 0 c.new.result.items refl
