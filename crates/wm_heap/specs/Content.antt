-- What the pages of a store hold: the slots of the pages in use, the bytes that stand under each id, and the first
-- fault.
use Rattle.std.specs.Prelude.{ℕ, zero, suc, ◌+◌, ◌-◌, Bool, true, false, ◌||◌, ◌==◌, nat_lt, if◌then◌else◌, List, [], ◌∷◌, ◌++◌, Option, Some, None, is_some, unwrap_or}
use Rattle.std.specs.Option.{option_map, option_or}
use Rattle.wm_faults.specs.declared.fault.Damage.{Damage}
use Rattle.wm_faults.specs.declared.fault.Damage.TheVariants as damages
use Rattle.wm_heap.specs.declared.slot.Slot.{Slot}
use Rattle.wm_heap.specs.Slots.{slots_of}

-- the slots of a page, none where they run past its end
abbrev pub slots_in : (ℕ → List ℕ) → ℕ → List Slot
slots_in held p = unwrap_or (slots_of (held p)) []

-- the slots of n pages from page 2 on, in order of page and slot
abbrev pub slots_upto : (ℕ → List Slot) → ℕ → List Slot
slots_upto slots zero = []
slots_upto slots (suc n) = slots_upto slots n ++ slots (n + 2)

-- the slots of a store with this page count, in order of page and slot
abbrev pub content : (ℕ → List ℕ) → ℕ → List Slot
content held count = slots_upto (slots_in held) (count - 2)

-- the bytes that stand under an id
abbrev pub bytes_at : List Slot → ℕ → Option (List ℕ)
bytes_at [] id = None
bytes_at (s ∷ slots) id = if s.id == id then Some s.bytes else bytes_at slots id

-- an id of the slots was seen before, or stands in an earlier one of them
abbrev pub is_twice : (ℕ → Bool) → List Slot → Bool
is_twice seen [] = false
is_twice seen (s ∷ slots) = if seen s.id then true else is_twice (λ id. (s.id == id) || seen id) slots

-- the first test that a page fails: it is whole in the file, it has slots, and none of their ids was seen before
abbrev pub damage_in : (ℕ → Bool) → Bool → Option (List Slot) → Option Damage
damage_in seen false slots = Some damages.Short
damage_in seen true None = Some damages.Slots
damage_in seen true (Some slots) = if is_twice seen slots then Some damages.Twice else None

-- the same, with the page
abbrev pub damage_on : (ℕ → Bool) → ℕ → Bool → Option (List Slot) → Option (ℕ × Damage)
damage_on seen p whole slots = option_map (λ kind. (p, kind)) (damage_in seen whole slots)

-- an id stands among the slots of n pages from page 2 on
abbrev pub is_in : (ℕ → List Slot) → ℕ → ℕ → Bool
is_in slots n id = is_some (bytes_at (slots_upto slots n) id)

-- the first of n pages from page 2 on that fails a test, where so many pages are whole in the file
abbrev pub fault_in : (ℕ → List ℕ) → ℕ → ℕ → Option (ℕ × Damage)
fault_in held whole zero = None
fault_in held whole (suc n) =
    option_or (fault_in held whole n) (damage_on (is_in (slots_in held) n) (n + 2) (nat_lt (n + 2) whole) (slots_of (held (n + 2))))

-- the first page in use that fails a test, and which
abbrev pub fault_of : (ℕ → List ℕ) → ℕ → ℕ → Option (ℕ × Damage)
fault_of held count whole = fault_in held whole (count - 2)
