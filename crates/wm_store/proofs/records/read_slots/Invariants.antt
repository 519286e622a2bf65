use Rattle.wm_store.proofs.Slotwise.{ReadSlots}
use Rattle.wm_store.proofs.records.read_slots.Given as goal

abbrev pub invariant-loop-slot : goal.invariant-loop-slot
invariant-loop-slot l = ReadSlots l.fn.records l.records l.slots l.slot-iterator
