-- Where each id stands, and what a heap says of the pages.
use Rattle.std.specs.Prelude.{◌≡◌, ℕ, ◌+◌, ◌-◌, ◌<◌, ◌≤◌, true, List, [], ◌∷◌, ◌++◌, map, length, slice_index_or, Option, Some, None, is_some}
use Rattle.std.specs.Ordering.{nat_cmp}
use Rattle.std.specs.Map.{lookup}
use Rattle.std.specs.BTreeMap.{is_at}
use Rattle.wm_heap.specs.declared.heap.Heap.{Heap}
use Rattle.wm_heap.specs.declared.slot.Slot.{Slot}
use Rattle.wm_heap.specs.declared.spot.Spot.{Spot}
use Rattle.wm_heap.specs.Slots.{slots_of}
use Rattle.wm_heap.specs.Content.{slots_in, bytes_at}

-- the value of a number in a list of them with their values
abbrev pub at : {A : Type 0} → List (ℕ × A) → ℕ → Option A
at entries key = lookup (is_at (nat_cmp key)) entries

-- no id stands in two of the slots
abbrev pub Once : List Slot → Type 0
Once [] = Unit {0}
Once (s ∷ slots) = (bytes_at slots s.id ≡ None) × Once slots

-- the places of all ids that the pages from 2 up to before the count hold, each once
pub record IsPlaced (slots : ℕ → List Slot) (count : ℕ) (place : ℕ → Option ℕ) : Type 0 where
  pub there : (id p : ℕ) → place id ≡ Some p → (2 ≤ p) × (p < count) × (is_some (bytes_at (slots p) id) ≡ true)
  pub only : (id p : ℕ) → 2 ≤ p → p < count → is_some (bytes_at (slots p) id) ≡ true → place id ≡ Some p
  pub once : (p : ℕ) → 2 ≤ p → p < count → Once (slots p)

-- the page that a heap has an id on
abbrev pub place_of : Heap → ℕ → Option ℕ
place_of heap id = at heap.places.entries id

-- the ids of a page, in lists for the pages from page 2 on
abbrev pub ids_on : List (List ℕ) → ℕ → List ℕ
ids_on ids p = slice_index_or ids (p - 2) []

abbrev pub ids_of : List Slot → List ℕ
ids_of slots = map (λ (s : Slot). s.id) slots

-- how many pages the heap's store has
abbrev pub page_count : Heap → ℕ
page_count heap = 2 + length heap.ids.items

-- the pages have slots, and the heap has the ids in them: each once, on its page, and those of a page in order
pub record IsHeapOf (heap : Heap) (held : ℕ → List ℕ) (count : ℕ) : Type 0 where
  pub pages : length heap.ids.items ≡ count - 2
  pub slots : (p : ℕ) → 2 ≤ p → p < count → is_some (slots_of (held p)) ≡ true
  pub placed : IsPlaced (slots_in held) count (place_of heap)
  pub ids : (p : ℕ) → 2 ≤ p → p < count → ids_on heap.ids.items p ≡ ids_of (slots_in held p)

-- the ids of a page, with the page
abbrev pub spots_on : ℕ → List ℕ → List Spot
spots_on page ids = map (λ (id : ℕ). (let s : Spot = record { page = page; id = id } in s)) ids

-- the same for the pages from this one on, a list for each
abbrev pub spots_from : ℕ → List (List ℕ) → List Spot
spots_from page [] = []
spots_from page (ids ∷ more) = spots_on page ids ++ spots_from (page + 1) more

abbrev pub spots_of : List (List ℕ) → List Spot
spots_of ids = spots_from 2 ids
