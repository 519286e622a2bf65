-- What a file says as a store: its records in order, or the first test of opening that it fails.
use Rattle.std.specs.Prelude.{◌≡◌, ℕ, zero, suc, ◌+◌, ◌-◌, ◌/◌, Bool, true, false, if◌then◌else◌, List, [], ◌∷◌, ◌++◌, length, Option, Some, None, is_some, Result, Ok, Err}
use Rattle.std.specs.Option.{option_or}
use Rattle.wm_faults.specs.declared.fault.Damage.{Damage}
use Rattle.wm_faults.specs.declared.fault.Damage.TheVariants as damages
use Rattle.wm_spec.specs.declared.record.Record.{Record}
use Rattle.wm_spec.specs.declared.record.stored.Stored.{Stored}
use Rattle.wm_codec.specs.Reading.{record_of}
use Rattle.wm_journal.specs.Disk.{is_made, held, count_of, damage_of}
use Rattle.wm_journal.specs.Store.{Keeps}
use Rattle.wm_heap.specs.declared.slot.Slot.{Slot}
use Rattle.wm_heap.specs.Content.{slots_in, content, fault_of}

-- the record of a slot, where its bytes are one
abbrev pub stored_at : ℕ → Option Record → List Stored
stored_at id None = []
stored_at id (Some r) = (record { id = id; «record» = r }) ∷ []

-- the records of the slots, in order
abbrev pub records_in : List Slot → List Stored
records_in [] = []
records_in (s ∷ slots) = stored_at s.id (record_of s.bytes) ++ records_in slots

-- the bytes of each slot are a record
abbrev pub are_records : List Slot → Bool
are_records [] = true
are_records (s ∷ slots) = if is_some (record_of s.bytes) then are_records slots else false

-- the first of n pages from page 2 on with a slot whose bytes are no record
abbrev pub unread_in : (ℕ → List Slot) → ℕ → Option (ℕ × Damage)
unread_in slots zero = None
unread_in slots (suc n) = option_or (unread_in slots n) (if are_records (slots (n + 2)) then None else Some (n + 2, damages.Record))

-- a fault, or else what comes after the test
abbrev pub unless : {A : Type 0} → Option (ℕ × Damage) → Result A (ℕ × Damage) → Result A (ℕ × Damage)
unless None rest = rest
unless (Some fault) rest = Err fault

-- the records of pages, where so many pages are whole in the file: each page is tested first, and then each record
unfoldable pub pages_opened : (ℕ → List ℕ) → ℕ → ℕ → Result (List Stored) (ℕ × Damage)
pages_opened pages count whole = unless (fault_of pages count whole) (unless (unread_in (slots_in pages) (count - 2)) (Ok (records_in (content pages count))))

-- the records of a file: pages 0 and 1 are tested first
unfoldable pub opened : List ℕ → Result (List Stored) (ℕ × Damage)
opened file = unless (damage_of file) (pages_opened (held file) (count_of file) (length file / 4096))

-- the file is a store that was made, and it holds these records
pub record Held (records : List Stored) (file : List ℕ) : Type 0 where
  pub made : is_made file ≡ true
  pub opens : opened file ≡ Ok records

-- the file says what another says: whether a store was made, and what it holds
pub record SaysAs (old file : List ℕ) : Type 0 where
  pub made : is_made file ≡ is_made old
  pub opens : opened file ≡ opened old

-- the file holds what another held: each page, and so its records or its damage
pub record HoldsAs (old file : List ℕ) : Type 0 where
  pub pages : Keeps old file
  pub says : SaysAs old file
