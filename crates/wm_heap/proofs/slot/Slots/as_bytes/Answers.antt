use Rattle.std.proofs.Common.{[], subst, sym}
use Rattle.wm_codec.specs.Writing.{AppendsEach}
use Rattle.wm_heap.specs.Slots.{slot, slots_at}
use Rattle.wm_heap.proofs.slot.Slots.as_bytes.Goals as goal

pub returns : goal.returns
returns c =
    subst (AppendsEach slot [] c.as_slice.result.now) c.self.view_is
    (subst (λ bytes. AppendsEach slot [] bytes (slots_at c.self.inside.count c.self.inside.bytes.items)) (sym c.as_slice.ensures.value) c.self.invariant.bytes_are)
