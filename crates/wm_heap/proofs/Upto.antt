-- What stands under an id in all pages, by its place, and when no page fails a test.
use Rattle.std.proofs.Common.{◌≡◌, ℕ, zero, suc, ◌+◌, ◌-◌, ◌<◌, ◌≤◌, ◌⊎◌, inl, inr, Bool, true, false, cond, ltb, List, [], Option, Some, None, is_some, unwrap_or, refl, sym, ap, subst, ◌∙◌, arith}
use Rattle.std.specs.Option.{option_or, option_and_then}
use Rattle.std.proofs.lemmas.Bool.{cases_lt, ltb-true, ltb-false, lt-ltb, le-ltb}
use Rattle.wm_base.proofs.Plain.{none_since}
use Rattle.wm_faults.specs.declared.fault.Damage.{Damage}
use Rattle.wm_heap.specs.declared.slot.Slot.{Slot}
use Rattle.wm_heap.specs.Slots.{slots_of}
use Rattle.wm_heap.specs.Content.{bytes_at, is_twice, slots_upto, slots_in, is_in, damage_on, fault_in}
use Rattle.wm_heap.specs.Places.{Once, IsPlaced}
use Rattle.wm_heap.proofs.Finding.{bytes_at-append, is_twice-none, seen-before, Once-seen}

-- an id stands on no page but its place
pub away : (slots : ℕ → List Slot) (count : ℕ) (place : ℕ → Option ℕ) (id p : ℕ) → IsPlaced slots count place → 2 ≤ p → p < count → (place id ≡ Some p → ⊥) → bytes_at (slots p) id ≡ None
away slots count place id p placed from till apart = by_case (is_some (bytes_at (slots p) id)) refl
  where
    by_case : (b : Bool) → is_some (bytes_at (slots p) id) ≡ b → bytes_at (slots p) id ≡ None
    by_case true e = absurd (apart (placed.only id p from till e))
    by_case false e = none_since (bytes_at (slots p) id) e

-- the bytes on the place of an id, where that is one of the first pages
abbrev pub at_place : (ℕ → List Slot) → Option ℕ → ℕ → ℕ → Option (List ℕ)
at_place slots None n id = None
at_place slots (Some p) n id = cond (ltb p (n + 2)) (bytes_at (slots p) id) None

or_some : (o p : Option (List ℕ)) → is_some o ≡ true → option_or o p ≡ o
or_some (Some x) p there = refl
or_some None p there = absurd cc

pub bytes_at-upto : (slots : ℕ → List Slot) (count : ℕ) (place : ℕ → Option ℕ) (n id : ℕ) → IsPlaced slots count place → n + 2 ≤ count → bytes_at (slots_upto slots n) id ≡ at_place slots (place id) n id
bytes_at-upto slots count place zero id placed fits = by_place (place id) refl
  where
    by_place : (o : Option ℕ) → place id ≡ o → bytes_at [] id ≡ at_place slots o 0 id
    by_place None e = refl
    by_place (Some p) e = let low = (placed.there id p e).0 in let test : ltb p 2 ≡ false = le-ltb p 2 low in rw test refl
bytes_at-upto slots count place (suc n) id placed fits =
    let before : bytes_at (slots_upto slots n) id ≡ at_place slots (place id) n id = bytes_at-upto slots count place n id placed (omega arith) in
    bytes_at-append (slots_upto slots n) (slots (n + 2)) id ∙ ap (λ o. option_or o (bytes_at (slots (n + 2)) id)) before ∙ by_place (place id) refl
  where
    by_place : (o : Option ℕ) → place id ≡ o → option_or (at_place slots o n id) (bytes_at (slots (n + 2)) id) ≡ at_place slots o (suc n) id
    by_place None e = away slots count place id (n + 2) placed (omega arith) (omega arith) (λ here. cc)
    by_place (Some p) e = by_test (ltb p (n + 2)) refl (ltb p (suc n + 2)) refl (placed.there id p e).2
      where
        by_test : (b : Bool) → ltb p (n + 2) ≡ b → (d : Bool) → ltb p (suc n + 2) ≡ d → is_some (bytes_at (slots p) id) ≡ true
            → option_or (cond b (bytes_at (slots p) id) None) (bytes_at (slots (n + 2)) id) ≡ cond d (bytes_at (slots p) id) None
        by_test true f true g there = or_some (bytes_at (slots p) id) (bytes_at (slots (n + 2)) id) there
        by_test true f false g there = absurd (let a = ltb-true p (n + 2) f in let b = ltb-false p (suc n + 2) g in omega arith)
        by_test false f true g there = let same : p ≡ n + 2 = (let a = ltb-false p (n + 2) f in let b = ltb-true p (suc n + 2) g in omega arith) in rw same refl
        by_test false f false g there = away slots count place id (n + 2) placed (omega arith) (omega arith) (λ here. let b = ltb-false p (suc n + 2) g in let same : Some p ≡ Some (n + 2) = sym e ∙ here in let q : p ≡ n + 2 = cc in omega arith)

-- in all pages
pub bytes_at-all : (slots : ℕ → List Slot) (count : ℕ) (place : ℕ → Option ℕ) (id : ℕ) → IsPlaced slots count place → bytes_at (slots_upto slots (count - 2)) id ≡ option_and_then (λ p. bytes_at (slots p) id) (place id)
bytes_at-all slots count place id placed = by_size (cases_lt count 2)
  where
    by_place : (o : Option ℕ) → place id ≡ o → 2 ≤ count → at_place slots o (count - 2) id ≡ option_and_then (λ p. bytes_at (slots p) id) o
    by_place None e fits = refl
    by_place (Some p) e fits = let high = (placed.there id p e).1 in let test : ltb p (count - 2 + 2) ≡ true = lt-ltb p (count - 2 + 2) (omega arith) in rw test refl

    by_none : (o : Option ℕ) → place id ≡ o → count < 2 → None ≡ option_and_then (λ p. bytes_at (slots p) id) o
    by_none None e few = refl
    by_none (Some p) e few = absurd (let t = placed.there id p e in let a = t.0 in let b = t.1 in omega arith)

    by_size : (count < 2) ⊎ (2 ≤ count) → bytes_at (slots_upto slots (count - 2)) id ≡ option_and_then (λ p. bytes_at (slots p) id) (place id)
    by_size (inl few) = let zero_is : count - 2 ≡ 0 = omega arith in rw zero_is (by_none (place id) refl few)
    by_size (inr enough) = bytes_at-upto slots count place (count - 2) id placed (omega arith) ∙ by_place (place id) refl enough

-- an id stands on the pages so far where it has a place there
pub is_in-placed : (slots : ℕ → List Slot) (n : ℕ) (place : ℕ → Option ℕ) (id : ℕ) → IsPlaced slots (n + 2) place → is_in slots n id ≡ is_some (place id)
is_in-placed slots n place id placed = ap is_some (bytes_at-upto slots (n + 2) place n id placed (omega arith)) ∙ by_place (place id) refl
  where
    by_place : (o : Option ℕ) → place id ≡ o → is_some (at_place slots o n id) ≡ is_some o
    by_place None e = refl
    by_place (Some p) e = let t = placed.there id p e in let test : ltb p (n + 2) ≡ true = lt-ltb p (n + 2) t.1 in rw test t.2

-- ---- faults

-- where each page has slots, and no id is out of place, no page fails
pub sound : (held : ℕ → List ℕ) (count whole : ℕ) (place : ℕ → Option ℕ) (n : ℕ) → IsPlaced (slots_in held) count place → ((p : ℕ) → 2 ≤ p → p < count → is_some (slots_of (held p)) ≡ true) → count ≤ whole → n + 2 ≤ count → fault_in held whole n ≡ None
sound held count whole place zero placed there fits within = refl
sound held count whole place (suc n) placed there fits within =
    let before : fault_in held whole n ≡ None = sound held count whole place n placed there fits (omega arith) in
    let test : ltb (n + 2) whole ≡ true = lt-ltb (n + 2) whole (omega arith) in
    rw (before, test) (by_slots (slots_of (held (n + 2))) refl (there (n + 2) (omega arith) (omega arith)))
  where
    seen_not : (id : ℕ) → is_some (bytes_at (slots_in held (n + 2)) id) ≡ true → is_in (slots_in held) n id ≡ false
    seen_not id here =
        let place_is : place id ≡ Some (n + 2) = placed.only id (n + 2) (omega arith) (omega arith) here in
        let test : ltb (n + 2) (n + 2) ≡ false = le-ltb (n + 2) (n + 2) (omega arith) in
        rw (bytes_at-upto (slots_in held) count place n id placed (omega arith), place_is, test) refl

    by_slots : (o : Option (List Slot)) → slots_of (held (n + 2)) ≡ o → is_some o ≡ true → damage_on (is_in (slots_in held) n) (n + 2) true o ≡ None
    by_slots None e some = absurd cc
    by_slots (Some ss) e some =
        let is : slots_in held (n + 2) ≡ ss = ap (λ o. unwrap_or o []) e in
        let once : Once ss = subst Once is (placed.once (n + 2) (omega arith) (omega arith)) in
        let never : is_twice (is_in (slots_in held) n) ss ≡ false = is_twice-none (is_in (slots_in held) n) ss once (λ id here. seen_not id (subst (λ xs. is_some (bytes_at xs id) ≡ true) (sym is) here)) in
        rw never refl

-- a fault on one page is the fault of all of them
pub fault-goes_on : (held : ℕ → List ℕ) (whole n m : ℕ) (fault : ℕ × Damage) → n ≤ m → fault_in held whole n ≡ Some fault → fault_in held whole m ≡ Some fault
fault-goes_on held whole n zero fault le e = let same : n ≡ 0 = omega arith in subst (λ k. fault_in held whole k ≡ Some fault) same e
fault-goes_on held whole n (suc m) fault le e = by_case (cases_lt m n) (λ less. fault-goes_on held whole n m fault less e)
  where
    by_case : (m < n) ⊎ (n ≤ m) → (n ≤ m → fault_in held whole m ≡ Some fault) → fault_in held whole (suc m) ≡ Some fault
    by_case (inl more) rest = let same : n ≡ suc m = omega arith in subst (λ k. fault_in held whole k ≡ Some fault) same e
    by_case (inr less) rest = rw (rest less) refl

-- the first page that fails
pub fault_found : (held : ℕ → List ℕ) (whole n m : ℕ) (place : ℕ → Option ℕ) (fault : ℕ × Damage) → n < m → fault_in held whole n ≡ None → damage_on (is_in (slots_in held) n) (n + 2) (ltb (n + 2) whole) (slots_of (held (n + 2))) ≡ Some fault → fault_in held whole m ≡ Some fault
fault_found held whole n m place fault lt none damage = fault-goes_on held whole (suc n) m fault (omega arith) (rw none damage)

-- ---- loading

-- a page more, whose ids have no place yet
pub IsPlaced-page : (slots : ℕ → List Slot) (count : ℕ) (place new : ℕ → Option ℕ) → IsPlaced slots count place → 2 ≤ count → is_twice (λ id. is_some (place id)) (slots count) ≡ false
    → ((id : ℕ) → new id ≡ cond (is_some (bytes_at (slots count) id)) (Some count) (place id)) → IsPlaced slots (count + 1) new
IsPlaced-page slots count place new placed enough never set = record {
  there = λ id p e. there_by id p (is_some (bytes_at (slots count) id)) refl (sym (set id) ∙ e);
  only = λ id p from till here. only_by id p (cases_lt p count) from till here;
  once = λ p from till. once_by p (cases_lt p count) from till;
}
  where
    there_by : (id p : ℕ) (b : Bool) → is_some (bytes_at (slots count) id) ≡ b → cond b (Some count) (place id) ≡ Some p → (2 ≤ p) × (p < count + 1) × (is_some (bytes_at (slots p) id) ≡ true)
    there_by id p true b e = let same : count ≡ p = cc in (omega arith, omega arith, subst (λ q. is_some (bytes_at (slots q) id) ≡ true) same b)
    there_by id p false b e = let t = placed.there id p e in let high = t.1 in (t.0, omega arith, t.2)

    only_by : (id p : ℕ) → (p < count) ⊎ (count ≤ p) → 2 ≤ p → p < count + 1 → is_some (bytes_at (slots p) id) ≡ true → new id ≡ Some p
    only_by id p (inl less) from till here = set id ∙ by_test (is_some (bytes_at (slots count) id)) refl (placed.only id p from less here)
      where
        by_test : (b : Bool) → is_some (bytes_at (slots count) id) ≡ b → place id ≡ Some p → cond b (Some count) (place id) ≡ Some p
        by_test true b e = absurd (let unseen : is_some (place id) ≡ false = seen-before (λ j. is_some (place j)) (slots count) id never b in let gone = none_since (place id) unseen in cc)
        by_test false b e = e
    only_by id p (inr more) from till here =
        let same : p ≡ count = omega arith in
        let at_count : is_some (bytes_at (slots count) id) ≡ true = subst (λ q. is_some (bytes_at (slots q) id) ≡ true) same here in
        set id ∙ rw (at_count, same) refl

    once_by : (p : ℕ) → (p < count) ⊎ (count ≤ p) → 2 ≤ p → p < count + 1 → Once (slots p)
    once_by p (inl less) from till = placed.once p from less
    once_by p (inr more) from till = let same : count ≡ p = omega arith in subst (λ q. Once (slots q)) same (Once-seen (λ id. is_some (place id)) (slots count) never)
