-- A change of the heap on its way: the pages put so far lie over those that the store holds.
use Rattle.std.specs.Prelude.{◌≡◌, ℕ, suc, ◌+◌, ◌-◌, ◌<◌, ◌≤◌, ◌⊎◌, max, Bool, true, false, ◌==◌, nat_lt, if◌then◌else◌, List, [], ◌∷◌, ◌++◌, map, length, Option, Some, None, is_some, unwrap_or}
use Rattle.std.specs.Option.{option_and_then}
use Rattle.wm_heap.specs.declared.heap.Heap.{Heap}
use Rattle.wm_heap.specs.declared.slot.Slot.{Slot}
use Rattle.wm_heap.specs.Slots.{slots_of, page_of, used}
use Rattle.wm_heap.specs.Content.{slots_in, bytes_at}
use Rattle.wm_heap.specs.Places.{at, ids_on, ids_of, place_of, page_count, IsPlaced}
use Rattle.wm_heap.specs.Plan.{root_of}

-- the slots of a page by now: those put there, or else those it held
abbrev pub slots_now : List (ℕ × List Slot) → (ℕ → List ℕ) → ℕ → List Slot
slots_now changed held p = unwrap_or (at changed p) (slots_in held p)

-- the bytes under an id by now, on the page that the heap has it on
abbrev pub bytes_now : Heap → List (ℕ × List Slot) → (ℕ → List ℕ) → ℕ → Option (List ℕ)
bytes_now heap changed held id = option_and_then (λ p. bytes_at (slots_now changed held p) id) (place_of heap id)

-- a page has room for the slots put there
abbrev pub HasRoom : List (ℕ × List Slot) → Type 0
HasRoom changed = (p : ℕ) (slots : List Slot) → at changed p ≡ Some slots → used slots ≤ 4096

-- a page has slots: they were put there, or the store holds them
abbrev pub IsThere : List (ℕ × List Slot) → (ℕ → List ℕ) → ℕ → ℕ → ℕ → Type 0
IsThere changed held in_use in_file p = (is_some (at changed p) ≡ true) ⊎ ((p < in_use) × (p < in_file) × (is_some (slots_of (held p)) ≡ true))

-- the heap is that of the pages by now
pub record Stands (heap : Heap) (changed : List (ℕ × List Slot)) (held : ℕ → List ℕ) (in_use in_file : ℕ) : Type 0 where
  pub there : (p : ℕ) → 2 ≤ p → p < page_count heap → IsThere changed held in_use in_file p
  pub placed : IsPlaced (slots_now changed held) (page_count heap) (place_of heap)
  pub ids : (p : ℕ) → 2 ≤ p → p < page_count heap → ids_on heap.ids.items p ≡ ids_of (slots_now changed held p)

-- the slots of a page, and behind them these bytes under an id, if any
abbrev pub slots_with : List Slot → ℕ → Option (List ℕ) → List Slot
slots_with slots id None = slots
slots_with slots id (Some bytes) = slots ++ record { id = id; bytes = bytes } ∷ []

-- how many bytes of a page the slot of an id takes, where it has bytes
abbrev pub slot_size : Option (List ℕ) → ℕ
slot_size None = 0
slot_size (Some bytes) = 10 + length bytes

-- the place of an id that has these bytes on a page, if any
abbrev pub place_with : ℕ → Option (List ℕ) → Option ℕ
place_with page None = None
place_with page (Some bytes) = Some page

-- the slots were put on a page, which may be a new one behind the last, and this is the place of an id now
pub record Puts (page : ℕ) (slots : List Slot) (id : ℕ) (place : Option ℕ) (old new : Heap) (was now : List (ℕ × List Slot)) : Type 0 where
  pub changed : (p : ℕ) → at now p ≡ (if p == page then Some slots else at was p)
  pub ids : (p : ℕ) → 2 ≤ p → ids_on new.ids.items p ≡ (if p == page then ids_of slots else ids_on old.ids.items p)
  pub count : page_count new ≡ max (page_count old) (suc page)
  pub places : (j : ℕ) → place_of new j ≡ (if j == id then place else place_of old j)

-- from one page count to another: pages that were put stay put, others lie within the count, and new ones are among
-- them
pub record Grows (old new : ℕ) (was now : List (ℕ × List Slot)) : Type 0 where
  pub no_fewer : old ≤ new
  pub kept : (p : ℕ) → is_some (at was p) ≡ true → is_some (at now p) ≡ true
  pub within : (p : ℕ) → is_some (at now p) ≡ true → (is_some (at was p) ≡ true) ⊎ ((2 ≤ p) × (p < new))
  pub grown : (p : ℕ) → old ≤ p → p < new → is_some (at now p) ≡ true

-- what a step does to the pages and the places, whatever they hold: new bytes have room, only one id moves, and pages
-- were put where something is touched
pub record Goes (old new : Heap) (was now : List (ℕ × List Slot)) (id : ℕ) (touched : Bool) : Type 0 where
  pub room : HasRoom now
  pub grows : Grows (page_count old) (page_count new) was now
  pub others : (j : ℕ) → (j == id) ≡ false → place_of new j ≡ place_of old j
  pub some : touched ≡ true → 0 < length now
  pub none : touched ≡ false → now ≡ was

-- after a step that puts these bytes under an id the heap is that of the pages, and they hold what they held but for
-- that
pub record Done (old new : Heap) (was now : List (ℕ × List Slot)) (held : ℕ → List ℕ) (in_use in_file id : ℕ) (bytes : Option (List ℕ)) : Type 0 where
  pub stands : Stands new now held in_use in_file
  pub bytes_are : (j : ℕ) → bytes_now new now held j ≡ (if j == id then bytes else bytes_now old was held j)

-- a step that puts so many bytes: no page has more than so many beyond what it had, and one is added only where the
-- last page had no room for them
pub record IsLean (old new : Heap) (was now : List (ℕ × List Slot)) (held : ℕ → List ℕ) (size : ℕ) : Type 0 where
  pub more : (p : ℕ) → used (slots_now now held p) ≤ used (slots_now was held p) + size
  pub full : page_count old < page_count new → 2 < page_count old → 4096 < used (slots_now was held (page_count old - 1)) + size

-- each page with its slots as bytes
abbrev pub written : List (ℕ × List Slot) → List (ℕ × List ℕ)
written changed = map (λ e. (e.0, page_of e.1)) changed

-- page 1, where the page count changes
abbrev pub rooted : Bool → ℕ → List (ℕ × List ℕ)
rooted false count = []
rooted true count = (1, root_of count) ∷ []

-- the pages of a change
abbrev pub paged : ℕ → ℕ → List (ℕ × List Slot) → List (ℕ × List ℕ)
paged before count changed = rooted (nat_lt before count) count ++ written changed
