-- What a heap tells of its pages.
use Rattle.std.proofs.Common.{◌≡◌, ℕ, ◌<◌, true, List, Some, None, is_some, ap, ◌∙◌}
use Rattle.std.specs.Option.{option_and_then}
use Rattle.wm_heap.specs.declared.heap.Heap.{Heap}
use Rattle.wm_heap.specs.Slots.{slots_of}
use Rattle.wm_heap.specs.Content.{bytes_at, slots_in, content}
use Rattle.wm_heap.specs.Places.{place_of, IsHeapOf}
use Rattle.wm_heap.proofs.Upto.{bytes_at-all}

-- an id with a place has the bytes there
pub bytes_there : (heap : Heap) (held : ℕ → List ℕ) (count id page : ℕ) → IsHeapOf heap held count → place_of heap id ≡ Some page → bytes_at (content held count) id ≡ bytes_at (slots_in held page) id
bytes_there heap held count id page is_heap here = bytes_at-all (slots_in held) count (place_of heap) id is_heap.placed ∙ ap (λ o. option_and_then (λ p. bytes_at (slots_in held p) id) o) here

-- and one without has none
pub bytes_nowhere : (heap : Heap) (held : ℕ → List ℕ) (count id : ℕ) → IsHeapOf heap held count → place_of heap id ≡ None → bytes_at (content held count) id ≡ None
bytes_nowhere heap held count id is_heap nowhere = bytes_at-all (slots_in held) count (place_of heap) id is_heap.placed ∙ ap (λ o. option_and_then (λ p. bytes_at (slots_in held p) id) o) nowhere

-- the page of a place is in use, and has slots
pub page_there : (heap : Heap) (held : ℕ → List ℕ) (count id page : ℕ) → IsHeapOf heap held count → place_of heap id ≡ Some page → (page < count) × (is_some (slots_of (held page)) ≡ true) × (is_some (bytes_at (slots_in held page) id) ≡ true)
page_there heap held count id page is_heap here = let t = is_heap.placed.there id page here in (t.1, is_heap.slots page t.0 t.1, t.2)
