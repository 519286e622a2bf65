-- How the ids of a page get their places, one slot after another.
use Rattle.std.proofs.Common.{◌≡◌, ℕ, zero, suc, ◌+◌, ◌-◌, ◌<◌, ◌≤◌, ◌⊎◌, inl, inr, max, Bool, true, false, cond, ltb, List, [], ◌∷◌, ◌++◌, length, length-append, get_or, Option, Some, None, is_some, unwrap_or, refl, sym, ap, subst, ◌∙◌, arith}
use Rattle.std.proofs.lemmas.Bool.{cases_lt, lt-ltb}
use Rattle.wm_faults.specs.declared.fault.OpenFault.{OpenFault}
use Rattle.wm_faults.specs.declared.fault.OpenFault.TheVariants as faults
use Rattle.wm_heap.specs.declared.heap.Heap.{Heap}
use Rattle.wm_heap.specs.Asking.{Finds, FindsTwice}
use Rattle.wm_heap.specs.Slots.{slots_of}
use Rattle.wm_heap.specs.Places.{at, ids_on, ids_of, page_count, place_of, IsPlaced, IsHeapOf}
use Rattle.wm_heap.proofs.Upto.{is_in-placed, fault_found, IsPlaced-page}
use Rattle.wm_heap.specs.declared.slot.Slot.{Slot}
use Rattle.wm_heap.specs.Content.{bytes_at, is_twice, slots_in, is_in, damage_on, fault_in, fault_of}
use Rattle.wm_heap.proofs.Finding.{is_twice-same}

-- the slots up to the rest have their places; those of the rest are tested as all would have been at first, and placed
-- they would stand where all would
pub record Placing (old now : ℕ → Option ℕ) (page : ℕ) (slots rest : List Slot) : Type 0 where
  pub tested : is_twice (λ id. is_some (now id)) rest ≡ is_twice (λ id. is_some (old id)) slots
  pub placed : (id : ℕ) → cond (is_some (bytes_at rest id)) (Some page) (now id) ≡ cond (is_some (bytes_at slots id)) (Some page) (old id)

-- ---- one page after another

-- the pages before this one passed each test, and their ids have their places
record Loaded (held : ℕ → List ℕ) (in_file : ℕ) (places : List (ℕ × ℕ)) (ids : List (List ℕ)) (page : ℕ) : Type 0 where
  pub placed : IsPlaced (slots_in held) page (at places)
  pub there : (p : ℕ) → 2 ≤ p → p < page → is_some (slots_of (held p)) ≡ true
  pub none : fault_in held in_file (page - 2) ≡ None
  pub ids_are : (p : ℕ) → 2 ≤ p → p < page → ids_on ids p ≡ ids_of (slots_in held p)

-- the page has slots of which none has an id that had a place; they have their places now, and their ids stand last
record LoadsPage (held : ℕ → List ℕ) (page : ℕ) (old new : List (ℕ × ℕ)) (was now : List (List ℕ)) : Type 0 where
  there : is_some (slots_of (held page)) ≡ true
  apart : is_twice (λ id. is_some (at old id)) (slots_in held page) ≡ false
  placed : (id : ℕ) → at new id ≡ cond (is_some (bytes_at (slots_in held page) id)) (Some page) (at old id)
  ids : now ≡ was ++ ids_of (slots_in held page) ∷ []

damage-same : (seen other : ℕ → Bool) (page : ℕ) (whole : Bool) (o : Option (List Slot)) → ((id : ℕ) → seen id ≡ other id) → damage_on seen page whole o ≡ damage_on other page whole o
damage-same seen other page false o same = refl
damage-same seen other page true None same = refl
damage-same seen other page true (Some slots) same = rw (is_twice-same seen other slots same) refl

-- what a page is tested with is what has a place
tested : (held : ℕ → List ℕ) (in_file n : ℕ) (places : List (ℕ × ℕ)) (ids : List (List ℕ)) → Loaded held in_file places ids (n + 2)
    → damage_on (is_in (slots_in held) n) (n + 2) (ltb (n + 2) in_file) (slots_of (held (n + 2))) ≡ damage_on (λ id. is_some (at places id)) (n + 2) (ltb (n + 2) in_file) (slots_of (held (n + 2)))
tested held in_file n places ids loaded =
    damage-same (is_in (slots_in held) n) (λ id. is_some (at places id)) (n + 2) (ltb (n + 2) in_file) (slots_of (held (n + 2))) (λ id. is_in-placed (slots_in held) n (at places) id loaded.placed)

get-front : (ids : List (List ℕ)) (x : List ℕ) (i : ℕ) → i < length ids → get_or (ids ++ x ∷ []) i [] ≡ get_or ids i []
get-front [] x i low = absurd (omega arith)
get-front (y ∷ ids) x zero low = refl
get-front (y ∷ ids) x (suc i) low = get-front ids x i (omega arith)

get-last : (ids : List (List ℕ)) (x : List ℕ) → get_or (ids ++ x ∷ []) (length ids) [] ≡ x
get-last [] x = refl
get-last (y ∷ ids) x = get-last ids x

loaded_at : (held : ℕ → List ℕ) (in_file n : ℕ) (places new : List (ℕ × ℕ)) (ids now : List (List ℕ)) → length ids ≡ n → n + 2 < in_file → Loaded held in_file places ids (n + 2) → LoadsPage held (n + 2) places new ids now → Loaded held in_file new now (n + 3)
loaded_at held in_file n places new ids now len whole loaded page = record {
  placed = subst (λ k. IsPlaced (slots_in held) k (at new)) (let e : n + 2 + 1 ≡ n + 3 = omega arith in e) (IsPlaced-page (slots_in held) (n + 2) (at places) (at new) loaded.placed (omega arith) page.apart page.placed);
  there = λ p from till. there_by p (cases_lt p (n + 2)) from till;
  none = none_by;
  ids_are = λ p from till. ids_by p (cases_lt p (n + 2)) from till;
}
  where
    there_by : (p : ℕ) → (p < n + 2) ⊎ (n + 2 ≤ p) → 2 ≤ p → p < n + 3 → is_some (slots_of (held p)) ≡ true
    there_by p (inl less) from till = loaded.there p from less
    there_by p (inr more) from till = let same : n + 2 ≡ p = omega arith in subst (λ q. is_some (slots_of (held q)) ≡ true) same page.there

    no_damage : (o : Option (List Slot)) → slots_of (held (n + 2)) ≡ o → is_some o ≡ true → damage_on (λ id. is_some (at places id)) (n + 2) true o ≡ None
    no_damage None e some = absurd cc
    no_damage (Some ss) e some =
        let is : slots_in held (n + 2) ≡ ss = ap (λ o. unwrap_or o []) e in
        let never : is_twice (λ id. is_some (at places id)) ss ≡ false = subst (λ l. is_twice (λ id. is_some (at places id)) l ≡ false) is page.apart in
        rw never refl

    sound_here : damage_on (is_in (slots_in held) n) (n + 2) (ltb (n + 2) in_file) (slots_of (held (n + 2))) ≡ None
    sound_here =
        tested held in_file n places ids loaded ∙ (let t : ltb (n + 2) in_file ≡ true = lt-ltb (n + 2) in_file whole in rw t (no_damage (slots_of (held (n + 2))) refl page.there))

    none_by : fault_in held in_file (n + 3 - 2) ≡ None
    none_by =
        let before : fault_in held in_file n ≡ None = (let e : n + 2 - 2 ≡ n = omega arith in subst (λ k. fault_in held in_file k ≡ None) e loaded.none) in
        let next : n + 3 - 2 ≡ suc n = omega arith in
        rw (next, before) sound_here

    ids_by : (p : ℕ) → (p < n + 2) ⊎ (n + 2 ≤ p) → 2 ≤ p → p < n + 3 → ids_on now p ≡ ids_of (slots_in held p)
    ids_by p (inl less) from till = ap (λ l. ids_on l p) page.ids ∙ get-front ids (ids_of (slots_in held (n + 2))) (p - 2) (omega arith) ∙ loaded.ids_are p from less
    ids_by p (inr more) from till =
        let same : p ≡ n + 2 = omega arith in
        let index : p - 2 ≡ length ids = omega arith in
        ap (λ l. ids_on l p) page.ids ∙ ap (λ k. get_or (ids ++ ids_of (slots_in held (n + 2)) ∷ []) k []) index ∙ get-last ids (ids_of (slots_in held (n + 2))) ∙ ap (λ k. ids_of (slots_in held k)) (sym same)

loaded_more : (held : ℕ → List ℕ) (in_file page : ℕ) (places new : List (ℕ × ℕ)) (ids now : List (List ℕ)) → 2 ≤ page → length ids ≡ page - 2 → page < in_file → Loaded held in_file places ids page → LoadsPage held page places new ids now → Loaded held in_file new now (page + 1)
loaded_more held in_file page places new ids now from len whole loaded loads =
    let n = page - 2 in
    let is : page ≡ n + 2 = omega arith in
    let next : n + 3 ≡ page + 1 = omega arith in
    subst (λ k. Loaded held in_file new now k) next
    (loaded_at held in_file n places new ids now len (omega arith) (subst (λ k. Loaded held in_file places ids k) is loaded) (subst (λ k. LoadsPage held k places new ids now) is loads))

found_at : (held : ℕ → List ℕ) (in_file n m : ℕ) (places : List (ℕ × ℕ)) (ids : List (List ℕ)) (e : OpenFault) → n < m → Loaded held in_file places ids (n + 2)
    → Finds e (damage_on (λ id. is_some (at places id)) (n + 2) (ltb (n + 2) in_file) (slots_of (held (n + 2)))) → Finds e (fault_in held in_file m)
found_at held in_file n m places ids faults.Disk lt loaded finds = tt
found_at held in_file n m places ids faults.NotStore lt loaded finds = absurd finds
found_at held in_file n m places ids faults.Memory lt loaded finds = tt
found_at held in_file n m places ids (faults.Damaged p kind) lt loaded finds =
    let before : fault_in held in_file n ≡ None = (let e : n + 2 - 2 ≡ n = omega arith in subst (λ k. fault_in held in_file k ≡ None) e loaded.none) in
    fault_found held in_file n m (at places) (p, kind) lt before (tested held in_file n places ids loaded ∙ finds)

-- the fault of a page is the fault of the store
loaded_fault : (held : ℕ → List ℕ) (in_file page count : ℕ) (places : List (ℕ × ℕ)) (ids : List (List ℕ)) (e : OpenFault) → 2 ≤ page → page < count → Loaded held in_file places ids page
    → Finds e (damage_on (λ id. is_some (at places id)) page (ltb page in_file) (slots_of (held page))) → Finds e (fault_in held in_file (count - 2))
loaded_fault held in_file page count places ids e from till loaded finds =
    let n = page - 2 in
    let is : page ≡ n + 2 = omega arith in
    found_at held in_file n (count - 2) places ids e (omega arith) (subst (λ k. Loaded held in_file places ids k) is loaded)
    (subst (λ k. Finds e (damage_on (λ id. is_some (at places id)) k (ltb k in_file) (slots_of (held k)))) is finds)

-- ---- as a heap says it

from_heap : (heap : Heap) (held : ℕ → List ℕ) (in_file page : ℕ) → IsHeapOf heap held page → fault_of held page in_file ≡ None → Loaded held in_file heap.places.entries heap.ids.items page
from_heap heap held in_file page is sound = record { placed = is.placed; there = is.slots; none = sound; ids_are = is.ids }

pub count_more : (old new : Heap) (slots : List Slot) → new.ids.items ≡ old.ids.items ++ ids_of slots ∷ [] → page_count new ≡ page_count old + 1
count_more old new slots ids = let more = length-append old.ids.items (ids_of slots ∷ []) in let all = ap length ids in omega (arith, more, all)

-- a page more, which passed each test
heap_next : (old new : Heap) (held : ℕ → List ℕ) (in_file : ℕ) (slots : List Slot)
    → IsHeapOf old held (page_count old) → fault_of held (page_count old) in_file ≡ None → page_count old < in_file → slots_of (held (page_count old)) ≡ Some slots
    → is_twice (λ id. is_some (place_of old id)) slots ≡ false → ((id : ℕ) → place_of new id ≡ cond (is_some (bytes_at slots id)) (Some (page_count old)) (place_of old id))
    → new.ids.items ≡ old.ids.items ++ ids_of slots ∷ [] → IsHeapOf new held (page_count new) × (fault_of held (page_count new) in_file ≡ None)
heap_next old new held in_file slots is sound whole found apart placed ids =
    let page = page_count old in
    let are : slots ≡ slots_in held page = sym (ap (λ o. unwrap_or o []) found) in
    let loads : LoadsPage held page old.places.entries new.places.entries old.ids.items new.ids.items = record {
      there = ap is_some found;
      apart = subst (λ l. is_twice (λ id. is_some (place_of old id)) l ≡ false) are apart;
      placed = subst (λ l. (id : ℕ) → place_of new id ≡ cond (is_some (bytes_at l id)) (Some page) (place_of old id)) are placed;
      ids = ids ∙ ap (λ l. old.ids.items ++ ids_of l ∷ []) are;
    } in
    let next : page + 1 ≡ page_count new = (let count = count_more old new slots ids in omega (arith, count)) in
    let loaded : Loaded held in_file new.places.entries new.ids.items (page_count new) =
    subst (λ k. Loaded held in_file new.places.entries new.ids.items k) next
    (loaded_more held in_file page old.places.entries new.places.entries old.ids.items new.ids.items (omega arith) (omega arith) whole (from_heap old held in_file page is sound) loads) in
    (record { pages = omega arith; slots = loaded.there; placed = loaded.placed; ids = loaded.ids_are }, loaded.none)

pub heap_more : (old new : Heap) (held : ℕ → List ℕ) (in_file page : ℕ) (slots : List Slot) → page ≡ page_count old
    → IsHeapOf old held (page_count old) → fault_of held (page_count old) in_file ≡ None → page < in_file → slots_of (held page) ≡ Some slots
    → is_twice (λ id. is_some (place_of old id)) slots ≡ false → ((id : ℕ) → place_of new id ≡ cond (is_some (bytes_at slots id)) (Some page) (place_of old id))
    → new.ids.items ≡ old.ids.items ++ ids_of slots ∷ [] → IsHeapOf new held (page_count new) × (fault_of held (page_count new) in_file ≡ None)
heap_more old new held in_file page slots next is sound whole found apart placed ids =
    heap_next old new held in_file slots is sound (subst (λ k. k < in_file) next whole) (subst (λ k. slots_of (held k) ≡ Some slots) next found) apart
    (subst (λ k. (id : ℕ) → place_of new id ≡ cond (is_some (bytes_at slots id)) (Some k) (place_of old id)) next placed) ids

-- all pages in use
pub heap_all : (heap : Heap) (held : ℕ → List ℕ) (in_file page count : ℕ) → page_count heap ≡ page → count ≤ page → page ≤ max 2 count → IsHeapOf heap held (page_count heap) → fault_of held (page_count heap) in_file ≡ None
    → IsHeapOf heap held count × (fault_of held count in_file ≡ None)
heap_all heap held in_file page count here end few is sound = by_size (cases_lt count 2)
  where
    by_size : (count < 2) ⊎ (2 ≤ count) → IsHeapOf heap held count × (fault_of held count in_file ≡ None)
    by_size (inr enough) = let same : page_count heap ≡ count = omega arith in (subst (IsHeapOf heap held) same is, subst (λ n. fault_of held n in_file ≡ None) same sound)
    by_size (inl less) = (
      record {
        pages = omega arith;
        slots = λ p from till. absurd (omega arith);
        placed = record {
          there = λ id p e. absurd (let t = is.placed.there id p e in let a = t.0 in let b = t.1 in omega arith);
          only = λ id p from till there. absurd (omega arith);
          once = λ p from till. absurd (omega arith);
        };
        ids = λ p from till. absurd (omega arith);
      },
      let none : count - 2 ≡ 0 = omega arith in rw none refl,
    )

pub whole_more : (page in_file : ℕ) → ((p : ℕ) → 2 ≤ p → p < page → p < in_file) → page < in_file → (p : ℕ) → 2 ≤ p → p < page + 1 → p < in_file
whole_more page in_file before here p from till = by_case (cases_lt p page)
  where
    by_case : (p < page) ⊎ (page ≤ p) → p < in_file
    by_case (inl less) = before p from less
    by_case (inr more) = omega arith

-- ---- as the calls say it

finds_twice : (e : OpenFault) (page in_file : ℕ) (seen : ℕ → Bool) (o : Option (List Slot)) (slots : List Slot) → FindsTwice e page (is_twice seen slots) → page < in_file → o ≡ Some slots → Finds e (damage_on seen page (ltb page in_file) o)
finds_twice faults.Disk page in_file seen o slots finds whole is = absurd finds
finds_twice faults.NotStore page in_file seen o slots finds whole is = absurd finds
finds_twice faults.Memory page in_file seen o slots finds whole is = tt
finds_twice (faults.Damaged p kind) page in_file seen o slots finds whole is =
    let t : ltb page in_file ≡ true = lt-ltb page in_file whole in
    rw (t, is, finds.2, finds.0, finds.1) refl

-- what is found on the next page is found first in the store
pub heap_fault : (heap : Heap) (held : ℕ → List ℕ) (in_file page count : ℕ) (e : OpenFault) → page ≡ page_count heap → page_count heap < count → IsHeapOf heap held (page_count heap) → fault_of held (page_count heap) in_file ≡ None
    → Finds e (damage_on (λ id. is_some (place_of heap id)) page (ltb page in_file) (slots_of (held page))) → Finds e (fault_of held count in_file)
heap_fault heap held in_file page count e next more is sound finds =
    loaded_fault held in_file (page_count heap) count heap.places.entries heap.ids.items e (omega arith) more (from_heap heap held in_file (page_count heap) is sound)
    (subst (λ k. Finds e (damage_on (λ id. is_some (place_of heap id)) k (ltb k in_file) (slots_of (held k)))) next finds)

-- so where one of its ids stands twice
pub heap_twice : (heap : Heap) (held : ℕ → List ℕ) (in_file page count : ℕ) (slots : List Slot) (e : OpenFault) → page ≡ page_count heap → page_count heap < count → IsHeapOf heap held (page_count heap)
    → fault_of held (page_count heap) in_file ≡ None → page < in_file → slots_of (held page) ≡ Some slots → FindsTwice e page (is_twice (λ id. is_some (place_of heap id)) slots) → Finds e (fault_of held count in_file)
heap_twice heap held in_file page count slots e next more is sound whole found finds =
    heap_fault heap held in_file page count e next more is sound (finds_twice e page in_file (λ id. is_some (place_of heap id)) (slots_of (held page)) slots finds whole found)
