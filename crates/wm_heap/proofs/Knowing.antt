-- What is known of the room of the pages, from step to step.
use Rattle.std.proofs.Common.{◌≡◌, ℕ, suc, ◌+◌, ◌-◌, ◌<◌, ◌≤◌, max, ◌⊎◌, inl, inr, Bool, true, false, cond, eqb, leb, List, Option, Some, None, IfSome, unwrap_or, Result, Ok, Err, IfOk, refl, sym, ap, subst, ◌∙◌, arith}
use Rattle.std.specs.BTreeSet.{BTreeSet, contains}
use Rattle.std.specs.Ordering.{nat_cmp}
use Rattle.std.proofs.lemmas.Bool.{cases_lt, eqb-true, eq-eqb, leb-true, leb-false, le-leb}
use Rattle.wm_heap.specs.declared.heap.Heap.{Heap}
use Rattle.wm_heap.specs.declared.room.Room.{Room}
use Rattle.wm_heap.specs.declared.slot.Slot.{Slot}
use Rattle.wm_heap.specs.Slots.{used}
use Rattle.wm_heap.specs.Content.{slots_in}
use Rattle.wm_heap.specs.Places.{at, page_count}
use Rattle.wm_heap.specs.Draft.{slots_now, Puts, IsLean}
use Rattle.wm_heap.specs.Room.{quarters, Leaves, AreThose, KnowsRoom, Keeps, Spreads}

-- ---- sets of pages

-- the set of those that leave so many bytes, after one page changed
pub those_kept : (old new : BTreeSet ℕ) (least page count after : ℕ) (was now : ℕ → List Slot) → 0 < least → AreThose old least was count
    → ((p : ℕ) → contains nat_cmp new p ≡ cond (eqb p page) (leb least (4096 - used (now page))) (contains nat_cmp old p)) → ((p : ℕ) → eqb p page ≡ false → now p ≡ was p)
    → 2 ≤ page → page ≤ count → after ≡ max count (suc page) → AreThose new least now after
those_kept old new least page count after was now some those kept others from till after_is = λ p. (within p (eqb p page) refl, all p (eqb p page) refl)
  where
    within : (p : ℕ) (b : Bool) → eqb p page ≡ b → contains nat_cmp new p ≡ true → Leaves least now after p
    within p true e has =
        let same = eqb-true p page e in
        let test : leb least (4096 - used (now page)) ≡ true = sym (kept p ∙ rw e refl) ∙ has in
        let fits = leb-true least (4096 - used (now page)) test in
        rw same (from, omega arith, omega arith)
    within p false e has =
        let t = (those p).0 (sym (kept p ∙ rw e refl) ∙ has) in
        let low = t.1 in
        (t.0, omega arith, subst (λ xs. used xs + least ≤ 4096) (sym (others p e)) t.2)

    all : (p : ℕ) (b : Bool) → eqb p page ≡ b → Leaves least now after p → contains nat_cmp new p ≡ true
    all p true e t =
        let same = eqb-true p page e in
        let fits : used (now page) + least ≤ 4096 = subst (λ q. used (now q) + least ≤ 4096) same t.2 in
        kept p ∙ rw e (le-leb least (4096 - used (now page)) (omega arith))
    all p false e t =
        let apart : p ≡ page → ⊥ = (λ same. let yes : eqb p page ≡ true = rw same (eq-eqb page page refl) in cc) in
        kept p ∙ rw e ((those p).1 (t.0, by_case apart (cases_lt p count), subst (λ xs. used xs + least ≤ 4096) (others p e) t.2))
      where
        by_case : (p ≡ page → ⊥) → (p < count) ⊎ (count ≤ p) → p < count
        by_case apart (inl less) = less
        by_case apart (inr more) = absurd (let high = t.1 in apart (omega arith))

-- ---- what is known

-- the room of a page that changed was kept
pub knows_kept : (old new : Room) (was now : ℕ → List Slot) (page count after : ℕ) → KnowsRoom old was count → Keeps page (4096 - used (now page)) old new → ((p : ℕ) → eqb p page ≡ false → now p ≡ was p)
    → 2 ≤ page → page ≤ count → after ≡ max count (suc page) → KnowsRoom new now after
knows_kept old new was now page count after knows keeps others from till after_is = record {
  quarter = those_kept old.quarter new.quarter 1024 page count after was now (omega arith) knows.quarter keeps.quarter others from till after_is;
  half = those_kept old.half new.half 2048 page count after was now (omega arith) knows.half keeps.half others from till after_is;
  three_quarters = those_kept old.three_quarters new.three_quarters 3072 page count after was now (omega arith) knows.three_quarters keeps.three_quarters others from till after_is;
  empty = those_kept old.empty new.empty 4094 page count after was now (omega arith) knows.empty keeps.empty others from till after_is;
  page = λ some. by_page (eqb page old.page) refl some;
}
  where
    by_page : (b : Bool) → eqb page old.page ≡ b → 0 < new.left → Leaves new.left now after new.page
    by_page true e some =
        let same : new.page ≡ page = keeps.page ∙ sym (eqb-true page old.page e) in
        let left : new.left ≡ 4096 - used (now page) = keeps.left ∙ rw e refl in
        rw same (from, omega arith, omega arith)
    by_page false e some =
        let left : new.left ≡ old.left = keeps.left ∙ rw e refl in
        let t = knows.page (omega arith) in
        let apart : eqb old.page page ≡ false = grind arith in
        let low = t.1 in
        let fits : used (now old.page) + old.left ≤ 4096 = subst (λ xs. used xs + old.left ≤ 4096) (sym (others old.page apart)) t.2 in
        rw (keeps.page, left) (t.0, omega arith, fits)

-- ---- a page for so many bytes

pub quarters_few : (need : ℕ) → quarters need ≤ need + 1024
quarters_few need = by_one (leb need 1024) refl
  where
    by_three : (b : Bool) → leb need 3072 ≡ b → 2048 < need → cond b 3072 4094 ≤ need + 1024
    by_three true e more = omega arith
    by_three false e more = omega (arith, leb-false need 3072 e)

    by_two : (b : Bool) → leb need 2048 ≡ b → 1024 < need → cond b 2048 (cond (leb need 3072) 3072 4094) ≤ need + 1024
    by_two true e more = omega arith
    by_two false e more = by_three (leb need 3072) refl (leb-false need 2048 e)

    by_one : (b : Bool) → leb need 1024 ≡ b → cond b 1024 (cond (leb need 2048) 2048 (cond (leb need 3072) 3072 4094)) ≤ need + 1024
    by_one true e = omega arith
    by_one false e = by_two (leb need 2048) refl (leb-false need 1024 e)

-- what is so whatever was found
pub whatever : {T E : Type 0} (r : Result T E) (Q : T → Type 0) → ((x : T) → Q x) → IfOk r Q
whatever (Ok x) Q all = all x
whatever (Err e) Q all = tt

-- no page was found, where the one that is looked at is none of the pages
pub none_found : (slots : ℕ → List Slot) (count need page : ℕ) (found : Option ℕ) → IfSome found (λ p. Leaves need slots count p) → page ≡ unwrap_or found 0 → (page < 2) ⊎ (count ≤ page) → found ≡ None
none_found slots count need page None leaves is out = refl
none_found slots count need page (Some p) leaves is (inl low) = absurd (let t = leaves.0 in omega arith)
none_found slots count need page (Some p) leaves is (inr high) = absurd (let t = leaves.1 in omega arith)

-- a page that was found has room
pub found_leaves : (slots : ℕ → List Slot) (count need page : ℕ) (found : Option ℕ) → IfSome found (λ p. Leaves need slots count p) → page ≡ unwrap_or found 0 → 2 ≤ page → used (slots page) + need ≤ 4096
found_leaves slots count need page None leaves is from = absurd (omega arith)
found_leaves slots count need page (Some p) leaves is from = rw is leaves.2

-- ---- the steps of a change

-- slots were put on a page, and its room was kept
pub knows_put : (page id : ℕ) (slots : List Slot) (place : Option ℕ) (old new : Heap) (was now : List (ℕ × List Slot)) (held : ℕ → List ℕ) (before : Room) → Puts page slots id place old new was now → Keeps page (4096 - used slots) before new.room → 2 ≤ page → page ≤ page_count old
    → KnowsRoom before (slots_now was held) (page_count old) → KnowsRoom new.room (slots_now now held) (page_count new)
knows_put page id slots place old new was now held before puts keeps from till knows =
    knows_kept before new.room (slots_now was held) (slots_now now held) page (page_count old) (page_count new) knows
    (subst (λ xs. Keeps page (4096 - used xs) before new.room) (sym here) keeps)
    others from till puts.count
  where
    others : (p : ℕ) → eqb p page ≡ false → slots_now now held p ≡ slots_now was held p
    others p e = ap (λ o. unwrap_or o (slots_in held p)) (puts.changed p ∙ ap (λ b. cond b (Some slots) (at was p)) e)

    here : slots_now now held page ≡ slots
    here = ap (λ o. unwrap_or o (slots_in held page)) (puts.changed page ∙ ap (λ b. cond b (Some slots) (at was page)) (eq-eqb page page refl))

-- on a page that is there
pub spread_here : (page id size : ℕ) (slots : List Slot) (place : Option ℕ) (old new : Heap) (was now : List (ℕ × List Slot)) (held : ℕ → List ℕ) (before : Room) → Puts page slots id place old new was now → Keeps page (4096 - used slots) before new.room → 2 ≤ page → page < page_count old
    → KnowsRoom before (slots_now was held) (page_count old) → Spreads old new was now held size
spread_here page id size slots place old new was now held before puts keeps from till knows = record {
  knows = knows_put page id slots place old new was now held before puts keeps from (omega arith) knows;
  full = λ grown. absurd (let count = puts.count in omega arith);
}

-- or on a new page, where each page leaves less than so many bytes in whole quarters
pub spread_new : (page id size : ℕ) (slots : List Slot) (place : Option ℕ) (old new : Heap) (was now : List (ℕ × List Slot)) (held : ℕ → List ℕ) (before : Room) → Puts page slots id place old new was now → Keeps page (4096 - used slots) before new.room → page ≡ page_count old
    → ((p : ℕ) → 2 ≤ p → p < page → 4096 < used (slots_now was held p) + quarters size) → KnowsRoom before (slots_now was held) (page_count old) → Spreads old new was now held size
spread_new page id size slots place old new was now held before puts keeps is_new full knows = record {
  knows = knows_put page id slots place old new was now held before puts keeps (omega arith) (omega arith) knows;
  full = λ grown p from till. full p from (omega arith);
}

-- a step that puts nothing and adds no page, and one behind it
pub spread_then : (a b c : Heap) (x y z : List (ℕ × List Slot)) (held : ℕ → List ℕ) (size : ℕ) → page_count b ≡ page_count a → IsLean a b x y held 0 → Spreads b c y z held size → Spreads a c x z held size
spread_then a b c x y z held size same one two = record {
  knows = two.knows;
  full = λ grown p from till. (let first = one.more p in let then = two.full (omega arith) p from (omega arith) in omega arith);
}

-- the same slots, under other bytes
pub knows_same : (room : Room) (slots now : ℕ → List Slot) (count : ℕ) → ((p : ℕ) → 2 ≤ p → p < count → now p ≡ slots p) → KnowsRoom room slots count → KnowsRoom room now count
knows_same room slots now count same knows = record {
  quarter = those 1024 room.quarter knows.quarter;
  half = those 2048 room.half knows.half;
  three_quarters = those 3072 room.three_quarters knows.three_quarters;
  empty = those 4094 room.empty knows.empty;
  page = λ some. there room.left room.page (knows.page some);
}
  where
    there : (least p : ℕ) → Leaves least slots count p → Leaves least now count p
    there least p t = (t.0, t.1, subst (λ xs. used xs + least ≤ 4096) (sym (same p t.0 t.1)) t.2)

    back : (least p : ℕ) → Leaves least now count p → Leaves least slots count p
    back least p t = (t.0, t.1, subst (λ xs. used xs + least ≤ 4096) (same p t.0 t.1) t.2)

    those : (least : ℕ) (pages : BTreeSet ℕ) → AreThose pages least slots count → AreThose pages least now count
    those least pages all = λ p. (λ has. there least p ((all p).0 has), λ t. (all p).1 (back least p t))

-- the room of the next page was kept
pub knows_next : (old new : Room) (slots : ℕ → List Slot) (page left : ℕ) (these : List Slot) → KnowsRoom old slots page → Keeps page left old new → left ≡ 4096 - used these → slots page ≡ these → 2 ≤ page → KnowsRoom new slots (page + 1)
knows_next old new slots page left these knows keeps left_is is from =
    knows_kept old new slots slots page page (page + 1) knows (subst (λ n. Keeps page n old new) (left_is ∙ ap (λ xs. 4096 - used xs) (sym is)) keeps) (λ p e. refl) from (omega arith) (omega arith)
