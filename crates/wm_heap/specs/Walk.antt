-- A slot that is looked at where it stands.
use Rattle.wm_heap.specs.declared.slot.Slot.{Slot}
use Rattle.wm_heap.specs.declared.walk.SlotRef.{SlotRef}

-- the slot
abbrev pub slot_seen : SlotRef → Slot
slot_seen s = record { id = s.id; bytes = s.bytes.now }
