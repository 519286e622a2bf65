use Rattle.std.proofs.Common.{◌≡◌}
use Rattle.wm_heap.specs.Content.{bytes_at}
use Rattle.wm_heap.proofs.slot.Slots.find.Given as goal

abbrev pub invariant-loop-slot : goal.invariant-loop-slot
invariant-loop-slot l = bytes_at l.slot-iterator l.id ≡ bytes_at l.self l.id
