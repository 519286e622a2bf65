-- The fault of the least place is the first one where faults stand in the order of their places.
use Rattle.std.proofs.Common.{◌≡◌, ℕ, nat_le, Bool, true, false, ◌&&◌, if◌then◌else◌, List, [], ◌∷◌, ◌++◌, Option, Some, None, refl, sym, ap, ◌∙◌}
use Rattle.std.proofs.lemmas.Bool.{and_parts}
use Rattle.std.proofs.lemmas.Option.{same_Some}
use Rattle.std.specs.List.{list_all}
use Rattle.wm_base.specs.declared.refusal.Refusal.{Refusal}
use Rattle.wm_print.specs.Texts.{Answer}
use Rattle.wm_model.specs.Step.{first_fault, refusal_of, refused_for, refused_if}
use Rattle.wm_model.specs.Step.Places.{least, place, sooner}

-- ---- none

parts_none : (f g : Option Refusal) → sooner f g ≡ None → (f ≡ None) × (g ≡ None)
parts_none None g e = (refl, e)
parts_none (Some r) None e = absurd (cc)
parts_none (Some r) (Some q) e = by_test (nat_le (place r) (place q)) e
  where
    by_test : (b : Bool) → (if b then Some r else Some q) ≡ None → (Some r ≡ None) × (Some q ≡ None)
    by_test true h = absurd (cc)
    by_test false h = absurd (cc)

-- where there is none at all, this one is none
pub least_none : (f : Option Refusal) (fs : List (Option Refusal)) → least (f ∷ fs) ≡ None → (f ≡ None) × (least fs ≡ None)
unfolding least
least_none f fs e = parts_none f (least fs) e

-- ---- in order

-- a fault is of a row of the table
abbrev pub AtPlace : ℕ → Option Refusal → Type 0
AtPlace k None = Unit {0}
AtPlace k (Some r) = place r ≡ k

-- faults are of these rows
abbrev pub Ranked : List ℕ → List (Option Refusal) → Type 0
Ranked [] [] = Unit {0}
Ranked [] (f ∷ fs) = ⊥
Ranked (k ∷ ks) [] = ⊥
Ranked (k ∷ ks) (f ∷ fs) = AtPlace k f × Ranked ks fs

-- these rows stand one behind another
abbrev pub rises : List ℕ → Bool
rises [] = true
rises (k ∷ ks) = list_all (nat_le k) ks && rises ks

pub at_for : {A : Type 0} (k : ℕ) (tells : A → Answer) → ((x : A) → AtPlace k (refusal_of (tells x))) → (o : Option A) → AtPlace k (refused_for tells o)
at_for k tells each None = tt
at_for k tells each (Some x) = each x

pub at_if : (k : ℕ) (b : Bool) (answer : Answer) → AtPlace k (refusal_of answer) → AtPlace k (refused_if b answer)
at_if k true answer at = at
at_if k false answer at = tt

-- what is told is of one of the rows
least_after : (k : ℕ) (ks : List ℕ) (fs : List (Option Refusal)) (q : Refusal) → Ranked ks fs → list_all (nat_le k) ks ≡ true → least fs ≡ Some q → nat_le k (place q) ≡ true
unfolding least
least_after k [] [] q ranked after is = absurd (cc)
least_after k [] (f ∷ fs) q ranked after is = absurd ranked
least_after k (j ∷ ks) [] q ranked after is = absurd ranked
least_after k (j ∷ ks) (None ∷ fs) q ranked after is = least_after k ks fs q ranked.1 (and_parts (nat_le k j) (list_all (nat_le k) ks) after).1 is
least_after k (j ∷ ks) (Some r ∷ fs) q ranked after is =
    let h = and_parts (nat_le k j) (list_all (nat_le k) ks) after in
    by_rest (ap (nat_le k) ranked.0 ∙ h.0) (least fs) refl is (λ q is. least_after k ks fs q ranked.1 h.1 is)
  where
    by_rest : nat_le k (place r) ≡ true → (o : Option Refusal) → least fs ≡ o → sooner (Some r) o ≡ Some q → ((p : Refusal) → least fs ≡ Some p → nat_le k (place p) ≡ true) → nat_le k (place q) ≡ true
    by_rest here None found e rest = ap (λ p. nat_le k (place p)) (sym (same_Some r q e)) ∙ here
    by_rest here (Some p) found e rest = by_test (nat_le (place r) (place p)) e
      where
        by_test : (b : Bool) → (if b then Some r else Some p) ≡ Some q → nat_le k (place q) ≡ true
        by_test true h = ap (λ u. nat_le k (place u)) (sym (same_Some r q h)) ∙ here
        by_test false h = ap (λ u. nat_le k (place u)) (sym (same_Some p q h)) ∙ rest p found

pub least_first : (ks : List ℕ) (fs : List (Option Refusal)) → Ranked ks fs → rises ks ≡ true → least fs ≡ first_fault fs
unfolding least
least_first [] [] ranked up = refl
least_first [] (f ∷ fs) ranked up = absurd ranked
least_first (k ∷ ks) [] ranked up = absurd ranked
least_first (k ∷ ks) (None ∷ fs) ranked up = least_first ks fs ranked.1 (and_parts (list_all (nat_le k) ks) (rises ks) up).1
least_first (k ∷ ks) (Some r ∷ fs) ranked up = by_rest (least fs) refl
  where
    by_rest : (o : Option Refusal) → least fs ≡ o → sooner (Some r) o ≡ Some r
    by_rest None is = refl
    by_rest (Some q) is = rw (ap (λ n. nat_le n (place q)) ranked.0 ∙ least_after k ks fs q ranked.1 (and_parts (list_all (nat_le k) ks) (rises ks) up).0 is) refl

-- ---- faults in front of others

pub ranked_behind : (js ks : List ℕ) (gs fs : List (Option Refusal)) → Ranked js gs → Ranked ks fs → Ranked (js ++ ks) (gs ++ fs)
ranked_behind [] ks [] fs front ranked = ranked
ranked_behind [] ks (g ∷ gs) fs front ranked = absurd front
ranked_behind (j ∷ js) ks [] fs front ranked = absurd front
ranked_behind (j ∷ js) ks (g ∷ gs) fs front ranked = (front.0, ranked_behind js ks gs fs front.1 ranked)

-- where there is none at all, there is none of the others
pub least_behind : (gs fs : List (Option Refusal)) → least (gs ++ fs) ≡ None → least fs ≡ None
least_behind [] fs e = e
least_behind (g ∷ gs) fs e = least_behind gs fs (least_none g (gs ++ fs) e).1

pub first_before : (gs fs : List (Option Refusal)) (r : Refusal) → Some r ≡ first_fault gs → Some r ≡ first_fault (gs ++ fs)
first_before [] fs r is = absurd (cc)
first_before (None ∷ gs) fs r is = first_before gs fs r is
first_before (Some q ∷ gs) fs r is = is

pub first_behind : (gs fs : List (Option Refusal)) (o : Option Refusal) → None ≡ first_fault gs → o ≡ first_fault fs → o ≡ first_fault (gs ++ fs)
first_behind [] fs o clear is = is
first_behind (None ∷ gs) fs o clear is = first_behind gs fs o clear is
first_behind (Some q ∷ gs) fs o clear is = absurd (cc)
