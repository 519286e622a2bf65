use Rattle.std.proofs.Common.{◌-◌, not, eqb, vec_len}
use Rattle.wm_heap.specs.declared.slot.Slot.{Slot}
use Rattle.wm_heap.specs.Slots.{slots_at}
use Rattle.wm_heap.proofs.Packed.{Dropping}
use Rattle.wm_heap.proofs.slot.drop_slots.Given as goal

abbrev pub invariant-loop-slot : goal.invariant-loop-slot
invariant-loop-slot l = Dropping (λ (s : Slot). not (eqb s.id l.id)) (slots_at l.fn.count l.fn.bytes.items) l.count l.from l.bytes.items

abbrev pub decreases-loop-slot : goal.decreases-loop-slot
decreases-loop-slot l = vec_len l.bytes - l.from
