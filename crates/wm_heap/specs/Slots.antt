-- The records of a page: the number of its slots in two bytes, and the slots; what follows means nothing.
use Rattle.std.specs.Prelude.{◌≡◌, ℕ, zero, suc, ◌+◌, ◌-◌, List, [], ◌∷◌, ◌++◌, length, replicate, Option, unwrap_or}
use Rattle.std.specs.List.{flat_map}
use Rattle.std.specs.Option.{option_and_then, option_map}
use Rattle.wm_codec.specs.Format.{Format, ◌▸◌, fields, times}
use Rattle.wm_codec.specs.Fields.{u16, u64, text}
use Rattle.wm_codec.specs.Writing.{AppendsEach}
use Rattle.wm_heap.specs.declared.slot.Slot.{Slot}

-- a slot: the id of a record, two bytes of length, and so many bytes
abbrev pub slot : Format Slot
slot = fields (λ s. (s.id, s.bytes)) (λ p. record { id = p.0; bytes = p.1 }) (u64 ▸ text)

-- the slots of a page, None where they run past its end
unfoldable pub slots_of : List ℕ → Option (List Slot)
slots_of page = option_and_then (λ count. option_map (λ x. x.0) (times slot count.0 count.1)) (u16.read page)

-- the bytes of slots, with their number before them
abbrev pub slots_bytes : List Slot → List ℕ
slots_bytes slots = u16.spell (length slots) ++ flat_map slot.spell slots

-- the page of slots: zeros stand behind them
unfoldable pub page_of : List Slot → List ℕ
page_of slots = slots_bytes slots ++ replicate (4096 - length (slots_bytes slots)) 0

-- how many bytes of a page the slots take
abbrev pub used : List Slot → ℕ
used [] = 2
used (s ∷ slots) = 10 + length s.bytes + used slots

-- the slots that bytes begin with, up to so many
unfoldable pub slots_at : ℕ → List ℕ → List Slot
slots_at zero bytes = []
slots_at (suc n) bytes = unwrap_or (option_map (λ x. x.0 ∷ slots_at n x.1) (slot.read bytes)) []

-- bytes are so many slots one behind the other, and nothing else
pub record IsPacked (slots : List Slot) (count : ℕ) (bytes : List ℕ) : Type 0 where
  pub count_is : count ≡ length slots
  pub bytes_are : AppendsEach slot [] bytes slots
