-- How the pages of a change are written.
use Rattle.std.proofs.Common.{◌≡◌, ℕ, suc, ◌+◌, ◌≤◌, ◌⊎◌, inl, inr, Bool, true, false, cond, List, [], ◌∷◌, ◌++◌, length, Some, None, ap, subst, ◌∙◌, append_assoc, arith}
use Rattle.std.specs.List.{All, AllByRecursion}
use Rattle.std.specs.Ordering.{nat_cmp, is_eq}
use Rattle.std.proofs.Common.{take, drop, replicate}
use Rattle.std.proofs.lemmas.List.{length-append, length-take, length-drop, length-replicate}
use Rattle.wm_page.proofs.Batches.{entries-append}
use Rattle.wm_page.proofs.Numbers.{length-eight_bytes}
use Rattle.wm_page.specs.Fields.{eight_bytes}
use Rattle.wm_heap.specs.Plan.{root_of}
use Rattle.wm_page.specs.declared.write.PageWrite.{PageWrite}
use Rattle.wm_page.specs.Batch.{entries}
use Rattle.wm_heap.specs.declared.slot.Slot.{Slot}
use Rattle.wm_heap.specs.Slots.{slots_of, page_of, used}
use Rattle.wm_heap.specs.Places.{at}
use Rattle.wm_heap.specs.Draft.{HasRoom, written}

-- each slots have room, one after another
pub room_each : (changed : List (ℕ × List Slot)) (all : List (ℕ × List Slot)) → HasRoom all → All (λ e. at all e.0 ≡ Some e.1) changed → AllByRecursion (λ e. used e.1 ≤ 4096) changed
room_each [] all room found = tt
room_each (e ∷ changed) all room found = (room e.0 e.1 (found 0 e (omega arith)), room_each changed all room (λ k d within. found (suc k) d (omega arith)))

-- a page written, and the others behind it
pub pages_more : (writes : List PageWrite) (w : PageWrite) (page : ℕ) (slots : List Slot) (rest : List (ℕ × List Slot)) (all : List (ℕ × List ℕ)) → w.page ≡ page → w.bytes ≡ page_of slots → entries writes ++ written ((page, slots) ∷ rest) ≡ all
    → entries (writes ++ w ∷ []) ++ written rest ≡ all
pages_more writes w page slots rest all page_is bytes_are before =
    ap (λ l. l ++ written rest) (entries-append writes (w ∷ [])) ∙ append_assoc (entries writes) ((w.page, w.bytes) ∷ []) (written rest)
    ∙ ap (λ (e : ℕ × List ℕ). entries writes ++ e ∷ written rest) (ap (λ (p : ℕ). (p, w.bytes)) page_is ∙ ap (λ (b : List ℕ). (page, b)) bytes_are) ∙ before

pub again_more : (page : ℕ) (slots : List Slot) (rest : List (ℕ × List Slot)) (p : ℕ) (found : List Slot) → slots_of (page_of slots) ≡ Some slots
    → (at ((page, slots) ∷ rest) p ≡ Some found) ⊎ (slots_of (page_of found) ≡ Some found) → (at rest p ≡ Some found) ⊎ (slots_of (page_of found) ≡ Some found)
again_more page slots rest p found here (inr done) = inr done
again_more page slots rest p found here (inl left) = by_test (is_eq (nat_cmp p page)) left
  where
    by_test : (b : Bool) → cond b (Some slots) (at rest p) ≡ Some found → (at rest p ≡ Some found) ⊎ (slots_of (page_of found) ≡ Some found)
    by_test true e = let same : slots ≡ found = cc in inr (subst (λ ss. slots_of (page_of ss) ≡ Some ss) same here)
    by_test false e = inl e

pub again_all : (left : List (ℕ × List Slot)) (p : ℕ) (found : List Slot) → left ≡ [] → (at left p ≡ Some found) ⊎ (slots_of (page_of found) ≡ Some found) → slots_of (page_of found) ≡ Some found
again_all left p found none (inr done) = done
again_all left p found none (inl some) = absurd (let gone : at left p ≡ None = ap (λ l. at l p) none in cc)

-- page 1 is whole
pub length-root_of : (count : ℕ) → length (root_of count) ≡ 4096
unfolding root_of
length-root_of count =
    let zeros : List ℕ = replicate 4096 0 in
    let eight = length-eight_bytes count in
    let back : length (drop (0 + length (eight_bytes count)) zeros) ≡ 4088 = omega (arith, length-drop (0 + length (eight_bytes count)) zeros, length-replicate {A = ℕ} 4096 0) in
    let front : length (take 0 zeros) ≡ 0 = omega (arith, length-take 0 zeros) in
    omega (arith, length-append (take 0 zeros ++ eight_bytes count) (drop (0 + length (eight_bytes count)) zeros), length-append (take 0 zeros) (eight_bytes count))
