-- How the pages of a change, and the places of the ids in them, stand after each step.
use Rattle.std.proofs.Common.{◌≡◌, ℕ, suc, ◌+◌, ◌-◌, ◌<◌, ◌≤◌, max, ◌⊎◌, inl, inr, ⊎_elim, Bool, true, false, cond, not, eqb, List, [], ◌∷◌, ◌++◌, length, filter, Option, Some, None, is_some, unwrap_or, Result, Ok, Err, OnOk, refl, sym, ap, subst, ◌∙◌, arith}
use Rattle.std.specs.Option.{option_and_then}
use Rattle.std.proofs.lemmas.Bool.{cases_lt, eqb-true, eq-eqb}
use Rattle.wm_base.proofs.Plain.{none_since}
use Rattle.wm_heap.specs.declared.slot.Slot.{Slot}
use Rattle.wm_heap.specs.declared.heap.Heap.{Heap}
use Rattle.wm_heap.specs.Slots.{used}
use Rattle.wm_heap.specs.Content.{bytes_at, slots_in}
use Rattle.wm_heap.specs.Places.{at, ids_on, ids_of, place_of, page_count, Once, IsPlaced}
use Rattle.wm_heap.specs.Draft.{slots_now, bytes_now, HasRoom, IsThere, Stands, Puts, Grows, Goes, Done, IsLean, slots_with, slot_size, place_with}
use Rattle.wm_heap.proofs.Finding.{none_is, bytes_at-push, bytes_at-without, Once-push, Once-without}
use Rattle.wm_heap.proofs.Sizes.{used-filter, used-push, used-least, used-with}
use Rattle.wm_heap.proofs.Upto.{away}

-- The slots of one page change, and the place of one id: where it was it is no more, and it is on this page or nowhere.
pub record Moves (slots : ℕ → List Slot) (count : ℕ) (old : ℕ → Option ℕ) (id page : ℕ) (new : List Slot) (place : Option ℕ) : Type 0 where
  pub from : 2 ≤ page
  pub till : page ≤ count
  pub once : Once new
  -- the other slots of the page stay, or the page is new
  pub others : (j : ℕ) → eqb j id ≡ false → page < count → bytes_at new j ≡ bytes_at (slots page) j
  pub fresh : (j : ℕ) → eqb j id ≡ false → page ≡ count → bytes_at new j ≡ None
  pub was : (p : ℕ) → old id ≡ Some p → p ≡ page
  pub now : is_some (bytes_at new id) ≡ true → place ≡ Some page
  pub gone : is_some (bytes_at new id) ≡ false → place ≡ None

-- a page with these slots, and the others as before
abbrev pub with_page : (ℕ → List Slot) → ℕ → List Slot → ℕ → List Slot
with_page slots page new p = cond (eqb p page) new (slots p)

-- the slots of a page that has them now
on_page : (slots : ℕ → List Slot) (page : ℕ) (new : List Slot) → with_page slots page new page ≡ new
on_page slots page new = rw (eq-eqb page page refl) refl

pub IsPlaced-moves : (slots now : ℕ → List Slot) (count after : ℕ) (old place : ℕ → Option ℕ) (id page : ℕ) (new : List Slot) (where_to : Option ℕ) → IsPlaced slots count old → Moves slots count old id page new where_to
    → ((p : ℕ) → now p ≡ with_page slots page new p) → after ≡ max count (suc page) → ((j : ℕ) → place j ≡ cond (eqb j id) where_to (old j)) → IsPlaced now after place
IsPlaced-moves slots now count after old place id page new where_to placed moves now_is after_is place_is = record {
  there = λ j p e. there_by j p (eqb j id) refl (sym (place_is j) ∙ e);
  only = λ j p from till here. place_is j ∙ only_by j p from till (eqb j id) refl (eqb p page) refl (subst (λ xs. is_some (bytes_at xs j) ≡ true) (now_is p) here);
  once = λ p from till. subst Once (sym (now_is p)) (once_by p from till (eqb p page) refl);
}
  where
    -- where the place says that it is
    at_id : (p : ℕ) (b : Bool) → is_some (bytes_at new id) ≡ b → where_to ≡ Some p → (p ≡ page) × (is_some (bytes_at new id) ≡ true)
    at_id p true e here = (let same : Some page ≡ Some p = sym (moves.now e) ∙ here in cc, e)
    at_id p false e here = absurd (let none = moves.gone e in cc)

    here_new : (j p : ℕ) → eqb p page ≡ true → is_some (bytes_at new j) ≡ true → is_some (bytes_at (now p) j) ≡ true
    here_new j p e some = subst (λ xs. is_some (bytes_at xs j) ≡ true) (sym (now_is p ∙ rw e refl)) some

    here_old : (j p : ℕ) → eqb p page ≡ false → is_some (bytes_at (slots p) j) ≡ true → is_some (bytes_at (now p) j) ≡ true
    here_old j p e some = subst (λ xs. is_some (bytes_at xs j) ≡ true) (sym (now_is p ∙ rw e refl)) some

    there_by : (j p : ℕ) (b : Bool) → eqb j id ≡ b → cond b where_to (old j) ≡ Some p → (2 ≤ p) × (p < after) × (is_some (bytes_at (now p) j) ≡ true)
    there_by j p true e here =
        let t = at_id p (is_some (bytes_at new id)) refl here in
        let same = eqb-true j id e in
        let from = moves.from in
        let some : is_some (bytes_at new j) ≡ true = rw same t.1 in
        let page_test : eqb p page ≡ true = rw t.0 (eq-eqb page page refl) in
        (let at_page = t.0 in omega arith, let at_page = t.0 in omega arith, here_new j p page_test some)
    there_by j p false e here =
        let t = placed.there j p here in
        (t.0, let high = t.1 in omega arith, by_page (eqb p page) refl t.1 t.2)
      where
        by_page : (d : Bool) → eqb p page ≡ d → p < count → is_some (bytes_at (slots p) j) ≡ true → is_some (bytes_at (now p) j) ≡ true
        by_page true f high some =
            let same = eqb-true p page f in
            let low : page < count = omega arith in
            here_new j p f (rw (moves.others j e low) (subst (λ q. is_some (bytes_at (slots q) j) ≡ true) same some))
        by_page false f high some = here_old j p f some

    only_by : (j p : ℕ) → 2 ≤ p → p < after → (b : Bool) → eqb j id ≡ b → (d : Bool) → eqb p page ≡ d → is_some (bytes_at (cond d new (slots p)) j) ≡ true → cond b where_to (old j) ≡ Some p
    only_by j p from till true e true f here =
        let same_id = eqb-true j id e in
        let same_page = eqb-true p page f in
        let some : is_some (bytes_at new id) ≡ true = subst (λ k. is_some (bytes_at new k) ≡ true) same_id here in
        moves.now some ∙ ap (λ q. Some q) (sym same_page)
    only_by j p from till true e false f here =
        let same_id = eqb-true j id e in
        let some : is_some (bytes_at (slots p) id) ≡ true = subst (λ k. is_some (bytes_at (slots p) k) ≡ true) same_id here in
        absurd (let inside : p < count = below p till f in let same = moves.was p (placed.only id p from inside some) in let t : eqb p page ≡ true = rw same (eq-eqb page page refl) in cc)
      where
        below : (p : ℕ) → p < after → eqb p page ≡ false → p < count
        below p till f = let apart : p ≡ page → ⊥ = (λ same. let t : eqb p page ≡ true = rw same (eq-eqb page page refl) in cc) in by_case (cases_lt p count) apart
          where
            by_case : (p < count) ⊎ (count ≤ p) → (p ≡ page → ⊥) → p < count
            by_case (inl less) apart = less
            by_case (inr more) apart = absurd (let page_till = moves.till in apart (omega arith))
    only_by j p from till false e true f here =
        let same_page = eqb-true p page f in
        by_new (cases_lt page count) same_page
      where
        by_new : (page < count) ⊎ (count ≤ page) → p ≡ page → old j ≡ Some p
        by_new (inl less) same_page =
            placed.only j p from (omega arith) (subst (λ q. is_some (bytes_at (slots q) j) ≡ true) (sym same_page) (subst (λ o. is_some o ≡ true) (moves.others j e less) here))
        by_new (inr more) same_page = absurd (let page_till = moves.till in let is_new : page ≡ count = omega arith in let none = none_is (bytes_at new j) (moves.fresh j e is_new) in cc)
    only_by j p from till false e false f here = placed.only j p from (below p till f) here
      where
        below : (p : ℕ) → p < after → eqb p page ≡ false → p < count
        below p till f = let apart : p ≡ page → ⊥ = (λ same. let t : eqb p page ≡ true = rw same (eq-eqb page page refl) in cc) in by_case (cases_lt p count) apart
          where
            by_case : (p < count) ⊎ (count ≤ p) → (p ≡ page → ⊥) → p < count
            by_case (inl less) apart = less
            by_case (inr more) apart = absurd (let page_till = moves.till in apart (omega arith))

    once_by : (p : ℕ) → 2 ≤ p → p < after → (d : Bool) → eqb p page ≡ d → Once (cond d new (slots p))
    once_by p from till true f = moves.once
    once_by p from till false f = placed.once p from (by_case (cases_lt p count))
      where
        by_case : (p < count) ⊎ (count ≤ p) → p < count
        by_case (inl less) = less
        by_case (inr more) = absurd (let page_till = moves.till in let same : p ≡ page = omega arith in let t : eqb p page ≡ true = rw same (eq-eqb page page refl) in cc)

-- what stands under each id then
pub bytes-move : (slots now : ℕ → List Slot) (count : ℕ) (old place : ℕ → Option ℕ) (id page : ℕ) (new : List Slot) (where_to : Option ℕ) → IsPlaced slots count old → Moves slots count old id page new where_to
    → ((p : ℕ) → now p ≡ with_page slots page new p) → ((j : ℕ) → place j ≡ cond (eqb j id) where_to (old j)) → (j : ℕ)
    → option_and_then (λ p. bytes_at (now p) j) (place j) ≡ cond (eqb j id) (bytes_at new id) (option_and_then (λ p. bytes_at (slots p) j) (old j))
bytes-move slots now count old place id page new where_to placed moves now_is place_is j =
    ap (λ o. option_and_then (λ p. bytes_at (now p) j) o) (place_is j) ∙ by_test (eqb j id) refl
  where
    to_page : (b : Bool) → is_some (bytes_at new id) ≡ b → option_and_then (λ p. bytes_at (now p) id) where_to ≡ bytes_at new id
    to_page true e = rw (moves.now e) (ap (λ xs. bytes_at xs id) (now_is page ∙ on_page slots page new))
    to_page false e = rw (moves.gone e) (sym (none_since (bytes_at new id) e))

    by_old : eqb j id ≡ false → (o : Option ℕ) → old j ≡ o → option_and_then (λ p. bytes_at (now p) j) o ≡ option_and_then (λ p. bytes_at (slots p) j) o
    by_old e None f = refl
    by_old e (Some p) f = ap (λ xs. bytes_at xs j) (now_is p) ∙ by_page (eqb p page) refl (placed.there j p f).1
      where
        by_page : (d : Bool) → eqb p page ≡ d → p < count → bytes_at (cond d new (slots p)) j ≡ bytes_at (slots p) j
        by_page true g high = let same = eqb-true p page g in moves.others j e (omega arith) ∙ ap (λ q. bytes_at (slots q) j) (sym same)
        by_page false g high = refl

    by_test : (b : Bool) → eqb j id ≡ b → option_and_then (λ p. bytes_at (now p) j) (cond b where_to (old j)) ≡ cond b (bytes_at new id) (option_and_then (λ p. bytes_at (slots p) j) (old j))
    by_test true e = let same = eqb-true j id e in rw same (to_page (is_some (bytes_at new id)) refl)
    by_test false e = by_old e (old j) refl

-- ---- one step of a change

pub done : (old new : Heap) (was now : List (ℕ × List Slot)) (held : ℕ → List ℕ) (in_use in_file page id : ℕ) (slots : List Slot) (place : Option ℕ) → Stands old was held in_use in_file → Moves (slots_now was held) (page_count old) (place_of old) id page slots place
    → Puts page slots id place old new was now → Done old new was now held in_use in_file id (bytes_at slots id)
done old new was now held in_use in_file page id slots place stands moves puts = record {
  stands = record {
    there = λ p from till. there_by p from till (eqb p page) refl;
    placed = IsPlaced-moves (slots_now was held) (slots_now now held) (page_count old) (page_count new) (place_of old) (place_of new) id page slots place stands.placed moves now_is puts.count puts.places;
    ids = λ p from till. puts.ids p from ∙ ids_by p from till (eqb p page) refl;
  };
  bytes_are = bytes-move (slots_now was held) (slots_now now held) (page_count old) (place_of old) (place_of new) id page slots place stands.placed moves now_is puts.places;
}
  where
    unwrapped : (b : Bool) (o : Option (List Slot)) (d : List Slot) → unwrap_or (cond b (Some slots) o) d ≡ cond b slots (unwrap_or o d)
    unwrapped true o d = refl
    unwrapped false o d = refl

    now_is : (p : ℕ) → slots_now now held p ≡ with_page (slots_now was held) page slots p
    now_is p = ap (λ o. unwrap_or o (slots_in held p)) (puts.changed p) ∙ unwrapped (eqb p page) (at was p) (slots_in held p)

    below : (p : ℕ) → p < page_count new → eqb p page ≡ false → p < page_count old
    below p till f = by_case (cases_lt p (page_count old))
      where
        by_case : (p < page_count old) ⊎ (page_count old ≤ p) → p < page_count old
        by_case (inl less) = less
        by_case (inr more) = absurd (let page_till = moves.till in let count = puts.count in let same : p ≡ page = omega arith in let t : eqb p page ≡ true = rw same (eq-eqb page page refl) in cc)

    there_by : (p : ℕ) → 2 ≤ p → p < page_count new → (b : Bool) → eqb p page ≡ b → IsThere now held in_use in_file p
    there_by p from till true e = inl (rw (puts.changed p, e) refl)
    there_by p from till false e = ⊎_elim (λ put. inl (rw (puts.changed p, e) put)) (λ kept. inr kept) (stands.there p from (below p till e))

    ids_by : (p : ℕ) → 2 ≤ p → p < page_count new → (b : Bool) → eqb p page ≡ b → cond b (ids_of slots) (ids_on old.ids.items p) ≡ ids_of (slots_now now held p)
    ids_by p from till true e = ap ids_of (sym (now_is p ∙ rw e refl))
    ids_by p from till false e = stands.ids p from (below p till e) ∙ ap ids_of (sym (now_is p ∙ rw e refl))

-- a slot behind the others of a page, which have none of its id
pub moves_behind : (slots : ℕ → List Slot) (count : ℕ) (old : ℕ → Option ℕ) (page id : ℕ) (base : List Slot) (s : Slot) → s.id ≡ id → 2 ≤ page → page ≤ count → Once base → bytes_at base id ≡ None
    → ((j : ℕ) → eqb j id ≡ false → page < count → bytes_at base j ≡ bytes_at (slots page) j) → (page ≡ count → base ≡ []) → ((p : ℕ) → old id ≡ Some p → p ≡ page)
    → Moves slots count old id page (base ++ s ∷ []) (Some page)
moves_behind slots count old page id base s s_id from till once none others fresh was = record {
  from = from;
  till = till;
  once = Once-push base s once none_s;
  others = λ j e low. pushed j ∙ rw (away_from j e) (others j e low);
  fresh = λ j e is_new. pushed j ∙ rw (away_from j e, fresh is_new) refl;
  was = was;
  now = λ e. refl;
  gone = λ e. absurd (let here = here_is in cc);
}
  where
    none_s : bytes_at base s.id ≡ None
    none_s = rw s_id none

    pushed : (j : ℕ) → bytes_at (base ++ s ∷ []) j ≡ cond (eqb j s.id) (Some s.bytes) (bytes_at base j)
    pushed j = bytes_at-push base s j none_s

    away_from : (j : ℕ) → eqb j id ≡ false → eqb j s.id ≡ false
    away_from j e = rw s_id e

    here_is : is_some (bytes_at (base ++ s ∷ []) id) ≡ true
    here_is = ap is_some (pushed id) ∙ (let t : eqb id s.id ≡ true = rw s_id (eq-eqb id id refl) in rw t refl)

-- a page without the slot of an id
pub moves_out : (slots : ℕ → List Slot) (count : ℕ) (old : ℕ → Option ℕ) (page id : ℕ) (new : List Slot) → IsPlaced slots count old → old id ≡ Some page → new ≡ filter (λ s. not (eqb s.id id)) (slots page) → Moves slots count old id page new None
moves_out slots count old page id new placed here new_is =
    let t = placed.there id page here in
    let high = t.1 in
    record {
      from = t.0;
      till = omega arith;
      once = subst Once (sym new_is) (Once-without id (slots page) (placed.once page t.0 high));
      others = λ j e low. kept j ∙ rw e refl;
      fresh = λ j e is_new. absurd (omega arith);
      was = λ p e. (let same : Some page ≡ Some p = sym here ∙ e in cc);
      now = λ e. absurd (let none = gone in cc);
      gone = λ e. refl;
    }
  where
    kept : (j : ℕ) → bytes_at new j ≡ cond (eqb j id) None (bytes_at (slots page) j)
    kept j = ap (λ xs. bytes_at xs j) new_is ∙ bytes_at-without id (slots page) j

    gone : is_some (bytes_at new id) ≡ false
    gone = ap is_some (kept id) ∙ rw (eq-eqb id id refl) refl

-- ---- room and growth

-- one entry more, or none
pub one_more : (was now : ℕ) (there : Bool) → now ≡ was + cond there 0 1 → now ≤ was + 1
one_more was now true e = omega (arith, e)
one_more was now false e = omega (arith, e)

pub HasRoom-puts : (page id : ℕ) (slots : List Slot) (place : Option ℕ) (old new : Heap) (was now : List (ℕ × List Slot)) → Puts page slots id place old new was now → used slots ≤ 4096 → HasRoom was → HasRoom now
HasRoom-puts page id slots place old new was now puts fits room p xs e = by_test (eqb p page) (sym (puts.changed p) ∙ e)
  where
    by_test : (b : Bool) → cond b (Some slots) (at was p) ≡ Some xs → used xs ≤ 4096
    by_test true f = let same : slots ≡ xs = cc in subst (λ ys. used ys ≤ 4096) same fits
    by_test false f = room p xs f

pub Grows-puts : (page id : ℕ) (slots : List Slot) (place : Option ℕ) (old new : Heap) (was now : List (ℕ × List Slot)) → Puts page slots id place old new was now → 2 ≤ page → page ≤ page_count old → Grows (page_count old) (page_count new) was now
Grows-puts page id slots place old new was now puts from till = record {
  no_fewer = let count = puts.count in omega arith;
  kept = λ p there. rw (puts.changed p) (kept_by (eqb p page) (at was p) there);
  within = λ p there. within_by p (eqb p page) refl (subst (λ o. is_some o ≡ true) (puts.changed p) there);
  grown = λ p low high. rw (puts.changed p) (let count = puts.count in let same : p ≡ page = omega arith in let t : eqb p page ≡ true = rw same (eq-eqb page page refl) in rw t refl);
}
  where
    kept_by : (b : Bool) (o : Option (List Slot)) → is_some o ≡ true → is_some (cond b (Some slots) o) ≡ true
    kept_by true o there = refl
    kept_by false o there = there

    within_by : (p : ℕ) (b : Bool) → eqb p page ≡ b → is_some (cond b (Some slots) (at was p)) ≡ true → (is_some (at was p) ≡ true) ⊎ ((2 ≤ p) × (p < page_count new))
    within_by p true e there = let same = eqb-true p page e in let count = puts.count in inr (omega arith, omega arith)
    within_by p false e there = inl there

pub Grows-none : (count : ℕ) (was : List (ℕ × List Slot)) → Grows count count was was
Grows-none count was = record {
  no_fewer = omega arith;
  kept = λ p there. there;
  within = λ p there. inl there;
  grown = λ p low high. absurd (omega arith);
}

pub Grows-then : (a b c : ℕ) (first second third : List (ℕ × List Slot)) → Grows a b first second → Grows b c second third → Grows a c first third
Grows-then a b c first second third one two = record {
  no_fewer = let x = one.no_fewer in let y = two.no_fewer in omega arith;
  kept = λ p there. two.kept p (one.kept p there);
  within = λ p there. ⊎_elim (λ was. ⊎_elim (λ first. inl first) (λ new. inr (new.0, let y = two.no_fewer in let z = new.1 in omega arith)) (one.within p was)) (λ new. inr new) (two.within p there);
  grown = λ p low high. by_case p low high (cases_lt p b);
}
  where
    by_case : (p : ℕ) → a ≤ p → p < c → (p < b) ⊎ (b ≤ p) → is_some (at third p) ≡ true
    by_case p low high (inl less) = two.kept p (one.grown p low less)
    by_case p low high (inr more) = two.grown p more high

-- a list with a page in it is not empty
pub some_page : (changed : List (ℕ × List Slot)) (p : ℕ) → is_some (at changed p) ≡ true → 0 < length changed
some_page [] p there = absurd cc
some_page (e ∷ changed) p there = omega arith

pub put_some : (page id : ℕ) (slots : List Slot) (place : Option ℕ) (old new : Heap) (was now : List (ℕ × List Slot)) → Puts page slots id place old new was now → 0 < length now
put_some page id slots place old new was now puts = some_page now page (rw (puts.changed page, eq-eqb page page refl) refl)

-- slots put over those of a page that were taken out, in a heap with the same ids and places
pub puts_over : (page id : ℕ) (slots : List Slot) (place : Option ℕ) (old mid new : Heap) (was between now : List (ℕ × List Slot)) → mid.ids ≡ old.ids → mid.places ≡ old.places → ((p : ℕ) → eqb p page ≡ false → at between p ≡ at was p)
    → Puts page slots id place mid new between now → Puts page slots id place old new was now
puts_over page id slots place old mid new was between now ids_same places_same apart puts = record {
  changed = λ p. puts.changed p ∙ by_test p (eqb p page) refl;
  ids = λ p from. puts.ids p from ∙ ap (λ v. cond (eqb p page) (ids_of slots) (ids_on v.items p)) ids_same;
  count = puts.count ∙ ap (λ v. max (2 + length v.items) (suc page)) ids_same;
  places = λ j. puts.places j ∙ ap (λ m. cond (eqb j id) place (at m.entries j)) places_same;
}
  where
    by_test : (p : ℕ) (b : Bool) → eqb p page ≡ b → cond b (Some slots) (at between p) ≡ cond b (Some slots) (at was p)
    by_test p true e = refl
    by_test p false e = apart p e

-- ---- the steps of a change

-- no page of the heap was changed but this one
pub puts_set : (page id : ℕ) (slots : List Slot) (place : Option ℕ) (old mid new : Heap) (was now : List (ℕ × List Slot)) → ((j : ℕ) → Puts page slots j (place_of old j) old mid was now) → mid.places ≡ old.places → new.ids ≡ mid.ids
    → ((j : ℕ) → place_of new j ≡ cond (eqb j id) place (place_of mid j)) → Puts page slots id place old new was now
puts_set page id slots place old mid new was now puts same ids_are set = record {
  changed = (puts id).changed;
  ids = λ p from. ap (λ v. ids_on v.items p) ids_are ∙ (puts id).ids p from;
  count = ap (λ v. 2 + length v.items) ids_are ∙ (puts id).count;
  places = λ j. set j ∙ ap (λ o. cond (eqb j id) place o) (ap (λ m. at m.entries j) same);
}

pub put_goes : (page id : ℕ) (slots : List Slot) (place : Option ℕ) (old new : Heap) (was now : List (ℕ × List Slot)) → Puts page slots id place old new was now → 2 ≤ page → page ≤ page_count old → used slots ≤ 4096 → HasRoom was → Goes old new was now id true
put_goes page id slots place old new was now puts from till fits room = record {
  room = HasRoom-puts page id slots place old new was now puts fits room;
  grows = Grows-puts page id slots place old new was now puts from till;
  others = λ j e. puts.places j ∙ rw e refl;
  some = λ e. put_some page id slots place old new was now puts;
  none = λ e. absurd cc;
}

pub done_then : (a b c : Heap) (x y z : List (ℕ × List Slot)) (held : ℕ → List ℕ) (in_use in_file id : ℕ) (first bytes : Option (List ℕ)) → Done a b x y held in_use in_file id first → Done b c y z held in_use in_file id bytes → Done a c x z held in_use in_file id bytes
done_then a b c x y z held in_use in_file id first bytes one two = record {
  stands = two.stands;
  bytes_are = λ j. two.bytes_are j ∙ by_test j (eqb j id) (one.bytes_are j);
}
  where
    by_test : (j : ℕ) (d : Bool) → bytes_now b y held j ≡ cond d first (bytes_now a x held j) → cond d bytes (bytes_now b y held j) ≡ cond d bytes (bytes_now a x held j)
    by_test j true e = refl
    by_test j false e = e

abbrev pub slot_with : ℕ → List ℕ → Slot
slot_with id bytes = record { id = id; bytes = bytes }

bytes_behind : (base : List Slot) (id : ℕ) (bytes : List ℕ) → bytes_at base id ≡ None → bytes_at (base ++ slot_with id bytes ∷ []) id ≡ Some bytes
bytes_behind base id bytes none = bytes_at-push base (slot_with id bytes) id none ∙ rw (eq-eqb id id refl) refl

-- bytes for an id that has none, on a page that is there
pub added_there : (old new : Heap) (was now : List (ℕ × List Slot)) (held : ℕ → List ℕ) (in_use in_file page id : ℕ) (base : List Slot) (bytes : List ℕ) → Stands old was held in_use in_file → place_of old id ≡ None → 2 ≤ page → page < page_count old → base ≡ slots_now was held page
    → Puts page (base ++ slot_with id bytes ∷ []) id (Some page) old new was now → Done old new was now held in_use in_file id (Some bytes)
added_there old new was now held in_use in_file page id base bytes stands absent from till base_is puts =
    let none_there : bytes_at (slots_now was held page) id ≡ None = away (slots_now was held) (page_count old) (place_of old) id page stands.placed from till (λ here. cc) in
    let none : bytes_at base id ≡ None = ap (λ xs. bytes_at xs id) base_is ∙ none_there in
    let once : Once base = subst Once (sym base_is) (stands.placed.once page from till) in
    let moves = moves_behind (slots_now was held) (page_count old) (place_of old) page id base (slot_with id bytes) refl from (omega arith) once none (λ j e low. ap (λ xs. bytes_at xs j) base_is) (λ is_new. absurd (omega arith)) (λ p e. absurd cc) in
    let all = done old new was now held in_use in_file page id (base ++ slot_with id bytes ∷ []) (Some page) stands moves puts in
    subst (λ o. Done old new was now held in_use in_file id o) (bytes_behind base id bytes none) all

-- or on a new page
pub added_new : (old new : Heap) (was now : List (ℕ × List Slot)) (held : ℕ → List ℕ) (in_use in_file page id : ℕ) (base : List Slot) (bytes : List ℕ) → Stands old was held in_use in_file → place_of old id ≡ None → page ≡ page_count old → base ≡ []
    → Puts page (base ++ slot_with id bytes ∷ []) id (Some page) old new was now → Done old new was now held in_use in_file id (Some bytes)
added_new old new was now held in_use in_file page id base bytes stands absent is_new base_is puts =
    let none : bytes_at base id ≡ None = ap (λ xs. bytes_at xs id) base_is in
    let once : Once base = subst Once (sym base_is) tt in
    let moves = moves_behind (slots_now was held) (page_count old) (place_of old) page id base (slot_with id bytes) refl (omega arith) (omega arith) once none (λ j e low. absurd (omega arith)) (λ e. base_is) (λ p e. absurd cc) in
    let all = done old new was now held in_use in_file page id (base ++ slot_with id bytes ∷ []) (Some page) stands moves puts in
    subst (λ o. Done old new was now held in_use in_file id o) (bytes_behind base id bytes none) all

-- other bytes for an id, on its page
pub replaced : (old new : Heap) (was now : List (ℕ × List Slot)) (held : ℕ → List ℕ) (in_use in_file page id : ℕ) (base : List Slot) (bytes : List ℕ) → Stands old was held in_use in_file → place_of old id ≡ Some page → base ≡ filter (λ s. not (eqb s.id id)) (slots_now was held page)
    → Puts page (base ++ slot_with id bytes ∷ []) id (Some page) old new was now → Done old new was now held in_use in_file id (Some bytes)
replaced old new was now held in_use in_file page id base bytes stands here base_is puts =
    let t = stands.placed.there id page here in
    let till = t.1 in
    let kept : (j : ℕ) → bytes_at base j ≡ cond (eqb j id) None (bytes_at (slots_now was held page) j) = λ j. ap (λ xs. bytes_at xs j) base_is ∙ bytes_at-without id (slots_now was held page) j in
    let none : bytes_at base id ≡ None = kept id ∙ rw (eq-eqb id id refl) refl in
    let once : Once base = subst Once (sym base_is) (Once-without id (slots_now was held page) (stands.placed.once page t.0 t.1)) in
    let moves = moves_behind (slots_now was held) (page_count old) (place_of old) page id base (slot_with id bytes) refl t.0 (omega arith) once none (λ j e low. kept j ∙ rw e refl) (λ is_new. absurd (omega arith)) (λ p e. (let same : Some page ≡ Some p = sym here ∙ e in cc)) in
    let all = done old new was now held in_use in_file page id (base ++ slot_with id bytes ∷ []) (Some page) stands moves puts in
    subst (λ o. Done old new was now held in_use in_file id o) (bytes_behind base id bytes none) all

-- an id dropped
pub dropped : (old new : Heap) (was now : List (ℕ × List Slot)) (held : ℕ → List ℕ) (in_use in_file page id : ℕ) (base : List Slot) → Stands old was held in_use in_file → place_of old id ≡ Some page → base ≡ filter (λ s. not (eqb s.id id)) (slots_now was held page)
    → Puts page base id None old new was now → Done old new was now held in_use in_file id None
dropped old new was now held in_use in_file page id base stands here base_is puts =
    let none : bytes_at base id ≡ None = ap (λ xs. bytes_at xs id) base_is ∙ bytes_at-without id (slots_now was held page) id ∙ rw (eq-eqb id id refl) refl in
    let moves = moves_out (slots_now was held) (page_count old) (place_of old) page id base stands.placed here base_is in
    let all = done old new was now held in_use in_file page id base None stands moves puts in
    subst (λ o. Done old new was now held in_use in_file id o) none all

-- other bytes for an id on its page, or none
pub changed_here : (old new : Heap) (was now : List (ℕ × List Slot)) (held : ℕ → List ℕ) (in_use in_file page id : ℕ) (base : List Slot) (what : Option (List ℕ)) → Stands old was held in_use in_file → place_of old id ≡ Some page → base ≡ filter (λ s. not (eqb s.id id)) (slots_now was held page)
    → Puts page (slots_with base id what) id (place_with page what) old new was now → Done old new was now held in_use in_file id what
changed_here old new was now held in_use in_file page id base None stands here base_is puts = dropped old new was now held in_use in_file page id base stands here base_is puts
changed_here old new was now held in_use in_file page id base (Some bytes) stands here base_is puts = replaced old new was now held in_use in_file page id base bytes stands here base_is puts

-- ---- how many bytes a step puts

-- slots that take no more than so many bytes beyond those that their page had
lean_puts : (page id : ℕ) (slots : List Slot) (place : Option ℕ) (old new : Heap) (was now : List (ℕ × List Slot)) (held : ℕ → List ℕ) (size : ℕ) → Puts page slots id place old new was now → used slots ≤ used (slots_now was held page) + size
    → (page_count old ≤ page → 2 < page_count old → 4096 < used (slots_now was held (page_count old - 1)) + size) → IsLean old new was now held size
lean_puts page id slots place old new was now held size puts fits full = record {
  more = λ p. subst (λ o. used (unwrap_or o (slots_in held p)) ≤ used (slots_now was held p) + size) (sym (puts.changed p)) (by_page p (eqb p page) refl);
  full = λ grown some. (let count = puts.count in full (omega arith) some);
}
  where
    by_page : (p : ℕ) (b : Bool) → eqb p page ≡ b → used (unwrap_or (cond b (Some slots) (at was p)) (slots_in held p)) ≤ used (slots_now was held p) + size
    by_page p true e = subst (λ q. used slots ≤ used (slots_now was held q) + size) (sym (eqb-true p page e)) fits
    by_page p false e = omega arith

-- bytes for an id that has none, on a page that is there
pub lean_there : (old new : Heap) (was now : List (ℕ × List Slot)) (held : ℕ → List ℕ) (page id : ℕ) (base : List Slot) (bytes : List ℕ) → page < page_count old → base ≡ slots_now was held page
    → Puts page (base ++ slot_with id bytes ∷ []) id (Some page) old new was now → IsLean old new was now held (10 + length bytes)
lean_there old new was now held page id base bytes till base_is puts =
    lean_puts page id (base ++ slot_with id bytes ∷ []) (Some page) old new was now held (10 + length bytes) puts (omega (arith, used-push base (slot_with id bytes), ap used base_is)) (λ high some. absurd (omega arith))

-- or on a new page
pub lean_new : (old new : Heap) (was now : List (ℕ × List Slot)) (held : ℕ → List ℕ) (page id : ℕ) (base : List Slot) (bytes : List ℕ) → page ≡ page_count old → base ≡ [] → (2 < page → 4096 < used (slots_now was held (page - 1)) + 10 + length bytes)
    → Puts page (base ++ slot_with id bytes ∷ []) id (Some page) old new was now → IsLean old new was now held (10 + length bytes)
lean_new old new was now held page id base bytes is_new base_is full puts =
    lean_puts page id (base ++ slot_with id bytes ∷ []) (Some page) old new was now held (10 + length bytes) puts (omega (arith, used-push base (slot_with id bytes), ap used base_is, used-least (slots_now was held page)))
    (λ high some. subst (λ n. 4096 < used (slots_now was held (n - 1)) + (10 + length bytes)) is_new (let t = full (omega arith) in omega arith))

-- other bytes for an id on its page, or none
pub lean_here : (old new : Heap) (was now : List (ℕ × List Slot)) (held : ℕ → List ℕ) (page id : ℕ) (base : List Slot) (what : Option (List ℕ)) → page < page_count old → base ≡ filter (λ s. not (eqb s.id id)) (slots_now was held page)
    → Puts page (slots_with base id what) id (place_with page what) old new was now → IsLean old new was now held (slot_size what)
lean_here old new was now held page id base what till base_is puts =
    let fewer = used-filter (λ (s : Slot). not (eqb s.id id)) (slots_now was held page) in
    lean_puts page id (slots_with base id what) (place_with page what) old new was now held (slot_size what) puts (omega (arith, used-with base id what, ap used base_is, fewer)) (λ high some. absurd (omega arith))

-- a step that puts nothing and adds no page, and one behind it
pub lean_then : (a b c : Heap) (x y z : List (ℕ × List Slot)) (held : ℕ → List ℕ) (size : ℕ) → page_count b ≡ page_count a → IsLean a b x y held 0 → IsLean b c y z held size → IsLean a c x z held size
lean_then a b c x y z held size same one two = record {
  more = λ p. (let first = one.more p in let then = two.more p in omega arith);
  full = λ grown some. (let first = one.more (page_count a - 1) in let then = last (omega arith) some in omega arith);
}
  where
    last : page_count b < page_count c → 2 < page_count a → 4096 < used (slots_now y held (page_count a - 1)) + size
    last grown some = subst (λ n. 4096 < used (slots_now y held (n - 1)) + size) same (two.full grown (omega arith))

-- what follows from what holds where all went well
pub then_ok : {T E : Type 0} (r : Result T E) (P Q : Type 0) → (P → Q) → OnOk r P → OnOk r Q
then_ok (Ok x) P Q f p = f p
then_ok (Err e) P Q f p = p

-- what is true of pages is true of the same pages
pub at_pages : (P : (ℕ → List ℕ) → ℕ → ℕ → Type 0) (held there : ℕ → List ℕ) (in_use use_there in_file file_there : ℕ) → there ≡ held → use_there ≡ in_use → file_there ≡ in_file → P there use_there file_there → P held in_use in_file
at_pages P held there in_use use_there in_file file_there same use_same file_same p =
    subst (λ h. P h in_use in_file) same (subst (λ u. P there u in_file) use_same (subst (λ f. P there use_there f) file_same p))
