use Rattle.std.proofs.Common.{length, ap, arith}
use Rattle.wm_heap.specs.Slots.{used}
use Rattle.wm_heap.proofs.Packed.{packed_size}
use Rattle.wm_heap.proofs.slot.Slots.left.Goals as goal

pub returns : goal.returns
returns c =
    let size = packed_size _ _ _ c.self.invariant in
    omega (arith, c.saturating_sub.ensures, ap length c.as_slice.ensures.value, size, ap used c.self.view_is)
