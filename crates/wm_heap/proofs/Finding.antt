-- What stands under an id in lists of slots.
use Rattle.std.proofs.Common.{◌≡◌, ℕ, Bool, true, false, cond, not, ◌||◌, eqb, List, [], ◌∷◌, ◌++◌, filter, Option, Some, None, is_some, refl, ap, subst, ◌∙◌, arith}
use Rattle.std.specs.Option.{option_or}
use Rattle.std.proofs.lemmas.Bool.{eqb-true, or_parts}
use Rattle.wm_base.proofs.Plain.{either_parts, none_since}
use Rattle.wm_heap.specs.declared.slot.Slot.{Slot}
use Rattle.wm_heap.specs.Content.{bytes_at, is_twice}
use Rattle.wm_heap.specs.Places.{Once}

-- ---- tests

-- three numbers of which two pairs are the same
same_third : (a b c : ℕ) → eqb a b ≡ true → eqb a c ≡ true → eqb c b ≡ true
same_third a b c e f = let p = eqb-true a b e in let q = eqb-true a c f in grind (arith, p, q)

pub none_is : {A : Type 0} (o : Option A) → o ≡ None → is_some o ≡ false
none_is (Some x) e = absurd cc
none_is None e = refl

-- ---- lists joined

pub bytes_at-append : (xs ys : List Slot) (id : ℕ) → bytes_at (xs ++ ys) id ≡ option_or (bytes_at xs id) (bytes_at ys id)
bytes_at-append [] ys id = refl
bytes_at-append (s ∷ xs) ys id = by_test (eqb s.id id) (bytes_at-append xs ys id)
  where
    by_test : (b : Bool) → bytes_at (xs ++ ys) id ≡ option_or (bytes_at xs id) (bytes_at ys id)
        → cond b (Some s.bytes) (bytes_at (xs ++ ys) id) ≡ option_or (cond b (Some s.bytes) (bytes_at xs id)) (bytes_at ys id)
    by_test true rest = refl
    by_test false rest = rest

-- one slot more at the end
pub bytes_at-push : (xs : List Slot) (s : Slot) (id : ℕ) → bytes_at xs s.id ≡ None → bytes_at (xs ++ s ∷ []) id ≡ cond (eqb id s.id) (Some s.bytes) (bytes_at xs id)
bytes_at-push xs s id none = bytes_at-append xs (s ∷ []) id ∙ by_test (eqb id s.id) refl (eqb s.id id) refl
  where
    by_test : (b : Bool) → eqb id s.id ≡ b → (d : Bool) → eqb s.id id ≡ d → option_or (bytes_at xs id) (cond d (Some s.bytes) None) ≡ cond b (Some s.bytes) (bytes_at xs id)
    by_test true e true f = let same = eqb-true id s.id e in rw (same, none) refl
    by_test true e false f = absurd (let same = eqb-true id s.id e in grind (arith, same, f))
    by_test false e true f = absurd (let same = eqb-true s.id id f in grind (arith, same, e))
    by_test false e false f = elim (bytes_at xs id) as (λ o. option_or o None ≡ o) [ Some x ↦ refl | None ↦ refl ]

-- ---- slots left out

pub bytes_at-without : (id : ℕ) (xs : List Slot) (j : ℕ) → bytes_at (filter (λ s. not (eqb s.id id)) xs) j ≡ cond (eqb j id) None (bytes_at xs j)
bytes_at-without id [] j = by_test (eqb j id)
  where
    by_test : (b : Bool) → bytes_at [] j ≡ cond b None (bytes_at [] j)
    by_test true = refl
    by_test false = refl
bytes_at-without id (s ∷ xs) j = by_tests (eqb s.id id) refl (eqb s.id j) refl (eqb j id) refl (bytes_at-without id xs j)
  where
    by_tests : (b : Bool) → eqb s.id id ≡ b → (d : Bool) → eqb s.id j ≡ d → (e : Bool) → eqb j id ≡ e
        → bytes_at (filter (λ s. not (eqb s.id id)) xs) j ≡ cond e None (bytes_at xs j)
        → bytes_at (cond (not b) (s ∷ filter (λ s. not (eqb s.id id)) xs) (filter (λ s. not (eqb s.id id)) xs)) j ≡ cond e None (cond d (Some s.bytes) (bytes_at xs j))
    by_tests true p d q true r rest = rest
    by_tests true p true q false r rest = absurd (let same = same_third s.id id j p q in cc)
    by_tests true p false q false r rest = rest
    by_tests false p true q true r rest = absurd (let a = eqb-true s.id j q in let b = eqb-true j id r in grind (arith, a, b, p))
    by_tests false p true q false r rest = rw q refl
    by_tests false p false q e r rest = rw q rest

pub Once-without : (id : ℕ) (xs : List Slot) → Once xs → Once (filter (λ s. not (eqb s.id id)) xs)
Once-without id [] once = tt
Once-without id (s ∷ xs) once = by_test (eqb s.id id) (bytes_at-without id xs s.id ∙ by_none (eqb s.id id) once.0) (Once-without id xs once.1)
  where
    by_none : (b : Bool) → bytes_at xs s.id ≡ None → cond b None (bytes_at xs s.id) ≡ None
    by_none true none = refl
    by_none false none = none

    by_test : (b : Bool) → bytes_at (filter (λ s. not (eqb s.id id)) xs) s.id ≡ None → Once (filter (λ s. not (eqb s.id id)) xs)
        → Once (cond (not b) (s ∷ filter (λ s. not (eqb s.id id)) xs) (filter (λ s. not (eqb s.id id)) xs))
    by_test true none rest = rest
    by_test false none rest = (none, rest)

-- a test that gave nothing failed
test_failed : {A : Type 0} (b : Bool) (x : A) (o : Option A) → cond b (Some x) o ≡ None → (b ≡ false) × (o ≡ None)
test_failed true x o e = absurd cc
test_failed false x o e = (refl, e)

pub Once-push : (xs : List Slot) (s : Slot) → Once xs → bytes_at xs s.id ≡ None → Once (xs ++ s ∷ [])
Once-push [] s once none = (refl, tt)
Once-push (x ∷ xs) s once none =
    let t = test_failed (eqb x.id s.id) x.bytes (bytes_at xs s.id) none in
    (bytes_at-push xs s x.id t.1 ∙ rw t.0 once.0, Once-push xs s once.1 t.1)

-- ---- ids that were seen

pub seen-before : (seen : ℕ → Bool) (xs : List Slot) (id : ℕ) → is_twice seen xs ≡ false → is_some (bytes_at xs id) ≡ true → seen id ≡ false
seen-before seen [] id never there = absurd cc
seen-before seen (s ∷ xs) id never there =
    let t = either_parts (seen s.id) (is_twice (λ j. eqb s.id j || seen j) xs) never in
    by_test (eqb s.id id) refl t.0 (λ here. (or_parts (eqb s.id id) (seen id) (seen-before (λ j. eqb s.id j || seen j) xs id t.1 here)).1) there
  where
    by_test : (b : Bool) → eqb s.id id ≡ b → seen s.id ≡ false → (is_some (bytes_at xs id) ≡ true → seen id ≡ false) → is_some (cond b (Some s.bytes) (bytes_at xs id)) ≡ true → seen id ≡ false
    by_test true e not_seen rest here = subst (λ j. seen j ≡ false) (eqb-true s.id id e) not_seen
    by_test false e not_seen rest here = rest here

pub Once-seen : (seen : ℕ → Bool) (xs : List Slot) → is_twice seen xs ≡ false → Once xs
Once-seen seen [] never = tt
Once-seen seen (s ∷ xs) never =
    let t = either_parts (seen s.id) (is_twice (λ j. eqb s.id j || seen j) xs) never in
    (by_case (is_some (bytes_at xs s.id)) refl (λ there. (or_parts (eqb s.id s.id) (seen s.id) (seen-before (λ j. eqb s.id j || seen j) xs s.id t.1 there)).0), Once-seen (λ j. eqb s.id j || seen j) xs t.1)
  where
    by_case : (b : Bool) → is_some (bytes_at xs s.id) ≡ b → (is_some (bytes_at xs s.id) ≡ true → eqb s.id s.id ≡ false) → bytes_at xs s.id ≡ None
    by_case true e differs = absurd (let apart = differs e in grind (arith, apart))
    by_case false e differs = none_since (bytes_at xs s.id) e

pub is_twice-none : (seen : ℕ → Bool) (xs : List Slot) → Once xs → ((id : ℕ) → is_some (bytes_at xs id) ≡ true → seen id ≡ false) → is_twice seen xs ≡ false
is_twice-none seen [] once apart = refl
is_twice-none seen (s ∷ xs) once apart =
    let head : seen s.id ≡ false = apart s.id (by_head (eqb s.id s.id) refl) in
    rw head (is_twice-none (λ j. eqb s.id j || seen j) xs once.1 (λ id there. by_test id (eqb s.id id) refl there (λ here. apart id here)))
  where
    by_head : (b : Bool) → eqb s.id s.id ≡ b → is_some (cond b (Some s.bytes) (bytes_at xs s.id)) ≡ true
    by_head true e = refl
    by_head false e = absurd (grind (arith, e))

    by_test : (id : ℕ) (b : Bool) → eqb s.id id ≡ b → is_some (bytes_at xs id) ≡ true → (is_some (cond b (Some s.bytes) (bytes_at xs id)) ≡ true → seen id ≡ false) → (b || seen id) ≡ false
    by_test id true e there rest = absurd (let none : bytes_at xs id ≡ None = subst (λ j. bytes_at xs j ≡ None) (eqb-true s.id id e) once.0 in let gone = none_is (bytes_at xs id) none in cc)
    by_test id false e there rest = rest there

pub is_twice-same : (seen other : ℕ → Bool) (xs : List Slot) → ((id : ℕ) → seen id ≡ other id) → is_twice seen xs ≡ is_twice other xs
is_twice-same seen other [] same = refl
is_twice-same seen other (s ∷ xs) same =
    rw (same s.id, is_twice-same (λ j. eqb s.id j || seen j) (λ j. eqb s.id j || other j) xs (λ id. ap (λ b. eqb s.id id || b) (same id))) refl
