-- The heap of a store with one page.
use Rattle.std.proofs.Common.{◌≡◌, ℕ, ◌<◌, ◌≤◌, Bool, true, false, cond, eqb, List, [], ◌∷◌, ◌++◌, length, Option, Some, None, is_some, unwrap_or, refl, sym, ap, subst, ◌∙◌, arith}
use Rattle.wm_heap.specs.declared.blob.Blob.{Blob}
use Rattle.wm_heap.specs.declared.heap.Heap.{Heap}
use Rattle.wm_heap.specs.declared.slot.Slot.{Slot}
use Rattle.wm_heap.specs.Slots.{slots_of, page_of}
use Rattle.wm_heap.specs.Content.{bytes_at, slots_in, fault_of}
use Rattle.wm_heap.specs.Blobs.{blob_at, AreBlobs, slots_of_bytes, slots_put}
use Rattle.wm_heap.specs.Places.{ids_on, ids_of, place_of, Once, IsPlaced, IsHeapOf}
use Rattle.wm_heap.proofs.Planning.{AreBlobs-rest}
use Rattle.wm_heap.proofs.Upto.{sound}

-- an id that no blob names has no slot
none_put : (blobs : List Blob) (id : ℕ) → blob_at blobs id ≡ None → bytes_at (slots_put blobs) id ≡ None
none_put [] id e = refl
none_put (b ∷ blobs) id e = by_test (eqb b.id id) refl e b.bytes (none_put blobs id)
  where
    by_test : (t : Bool) → eqb b.id id ≡ t → cond t (Some b.bytes) (blob_at blobs id) ≡ None → (o : Option (List ℕ)) → (blob_at blobs id ≡ None → bytes_at (slots_put blobs) id ≡ None) → bytes_at (slots_of_bytes b.id o ++ slots_put blobs) id ≡ None
    by_test true f none o rest = absurd cc
    by_test false f none None rest = rest none
    by_test false f none (Some bytes) rest = rw f (rest none)

-- each id has one slot
pub once_put : (blobs : List Blob) → AreBlobs blobs → Once (slots_put blobs)
once_put [] once = tt
once_put (b ∷ blobs) once =
    let t = AreBlobs-rest b blobs once in
    by_bytes b.bytes (none_put blobs b.id t.0) (once_put blobs t.1)
  where
    by_bytes : (o : Option (List ℕ)) → bytes_at (slots_put blobs) b.id ≡ None → Once (slots_put blobs) → Once (slots_of_bytes b.id o ++ slots_put blobs)
    by_bytes None none rest = rest
    by_bytes (Some bytes) none rest = (none, rest)

first_placed : (held : ℕ → List ℕ) (slots : List Slot) (place : ℕ → Option ℕ) → slots_of (held 2) ≡ Some slots → Once slots → ((id : ℕ) → place id ≡ cond (is_some (bytes_at slots id)) (Some 2) None) → IsPlaced (slots_in held) 3 place
first_placed held slots place is once placed = record {
  there = λ id p e. there_by id p (is_some (bytes_at slots id)) refl (sym (placed id) ∙ e);
  only = λ id p from till here. (let same : p ≡ 2 = omega arith in placed id ∙ (let here_two : is_some (bytes_at slots id) ≡ true = subst (λ xs. is_some (bytes_at xs id) ≡ true) slots_are (subst (λ q. is_some (bytes_at (slots_in held q) id) ≡ true) same here) in rw (here_two, same) refl));
  once = λ p from till. (let same : 2 ≡ p = omega arith in subst (λ q. Once (slots_in held q)) same (subst Once (sym slots_are) once));
}
  where
    slots_are : slots_in held 2 ≡ slots
    slots_are = ap (λ o. unwrap_or o []) is

    there_by : (id p : ℕ) (b : Bool) → is_some (bytes_at slots id) ≡ b → cond b (Some 2) None ≡ Some p → (2 ≤ p) × (p < 3) × (is_some (bytes_at (slots_in held p) id) ≡ true)
    there_by id p true e f = (let same : 2 ≡ p = cc in (omega arith, omega arith, subst (λ q. is_some (bytes_at (slots_in held q) id) ≡ true) same (subst (λ xs. is_some (bytes_at xs id) ≡ true) (sym slots_are) e)))
    there_by id p false e f = absurd cc

-- the heap of a store with these slots on page 2
pub first_heap : (heap : Heap) (held : ℕ → List ℕ) (slots : List Slot) → slots_of (page_of slots) ≡ Some slots → Once slots → heap.ids.items ≡ ids_of slots ∷ [] → ((id : ℕ) → place_of heap id ≡ cond (is_some (bytes_at slots id)) (Some 2) None) → held 2 ≡ page_of slots → IsHeapOf heap held 3
first_heap heap held slots again once ids placed page_is =
    let is : slots_of (held 2) ≡ Some slots = ap slots_of page_is ∙ again in
    record {
      pages = ap length ids;
      slots = λ p from till. (let same : 2 ≡ p = omega arith in subst (λ q. is_some (slots_of (held q)) ≡ true) same (ap is_some is));
      placed = first_placed held slots (place_of heap) is once placed;
      ids = λ p from till. (let same : 2 ≡ p = omega arith in subst (λ q. ids_on heap.ids.items q ≡ ids_of (slots_in held q)) same (ap (λ l. ids_on l 2) ids ∙ ap ids_of (sym (ap (λ o. unwrap_or o []) is))));
    }

pub first_sound : (heap : Heap) (held : ℕ → List ℕ) (whole : ℕ) → IsHeapOf heap held 3 → 3 ≤ whole → fault_of held 3 whole ≡ None
first_sound heap held whole is_heap fits = sound held 3 whole (place_of heap) 1 is_heap.placed is_heap.slots fits (omega arith)
