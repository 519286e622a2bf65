-- What is found in a list with one more.
use Rattle.std.proofs.Common.{◌≡◌, ℕ, zero, suc, Bool, true, false, ◌&&◌, cond, if◌then◌else◌, List, [], ◌∷◌, ◌++◌, map, slice_get, Some, None, option_map, refl, sym, ap, ◌∙◌, ◌⊎◌, inl, inr}
use Rattle.std.proofs.lemmas.Option.{same_Some}
use Rattle.std.proofs.lemmas.Bool.{true≢false}
use Rattle.std.specs.List.{find}
use Rattle.wm_state.specs.State.{Turn}

-- what is found was found before, or is the one that is new
pub found_either : {A : Type 0} (P : A → Bool) (xs : List A) (k x : A) → find P (xs ++ k ∷ []) ≡ Some x → (find P xs ≡ Some x) ⊎ (x ≡ k)
found_either P [] k x found = inr (by_test (P k) found)
  where
    by_test : (b : Bool) → cond b (Some k) None ≡ Some x → x ≡ k
    by_test true h = sym (same_Some k x h)
    by_test false h = absurd (cc)
found_either P (y ∷ ys) k x found = by_test (P y) found (found_either P ys k x)
  where
    by_test : (b : Bool) → cond b (Some y) (find P (ys ++ k ∷ [])) ≡ Some x → (find P (ys ++ k ∷ []) ≡ Some x → (find P ys ≡ Some x) ⊎ (x ≡ k)) → (cond b (Some y) (find P ys) ≡ Some x) ⊎ (x ≡ k)
    by_test true h rest = inl h
    by_test false h rest = rest h

-- what is found by one test and passes another is the first that passes both
pub found_both : {A : Type 0} (Q P : A → Bool) (xs : List A) (x : A) → find P xs ≡ Some x → Q x ≡ true → find (λ y. Q y && P y) xs ≡ Some x
found_both Q P [] x found passes = absurd (cc)
found_both {A = A} Q P (y ∷ ys) x found passes = by_tests (Q y) (P y) refl found (found_both Q P ys x)
  where
    by_tests : (b c : Bool) → Q y ≡ b → (if c then Some y else find P ys) ≡ Some x → (find P ys ≡ Some x → Q x ≡ true → find (λ z. Q z && P z) ys ≡ Some x) → (if b && c then Some y else find (λ z. Q z && P z) ys) ≡ Some x
    by_tests true true is h rest = h
    by_tests true false is h rest = rest h passes
    by_tests false true is h rest = absurd (true≢false (sym passes ∙ ap Q (sym (same_Some y x h)) ∙ is))
    by_tests false false is h rest = rest h passes

-- what is found among what is told of elements is what is told of the one that is found
pub found_mapped : {A B : Type 0} (f : A → B) (P : B → Bool) (xs : List A) → option_map f (find (λ x. P (f x)) xs) ≡ find P (map f xs)
found_mapped f P [] = refl
found_mapped {A = A} f P (x ∷ xs) = by_test (P (f x)) (found_mapped f P xs)
  where
    by_test : (b : Bool) → option_map f (find (λ y. P (f y)) xs) ≡ find P (map f xs) → option_map f (cond b (Some x) (find (λ y. P (f y)) xs)) ≡ cond b (Some (f x)) (find P (map f xs))
    by_test true rest = refl
    by_test false rest = rest

-- the one turn of a workspace that is born
pub one_turn : (t u : Turn) (number : ℕ) → slice_get (t ∷ []) number ≡ Some u → u ≡ t
one_turn t u zero found = sym (same_Some t u found)
one_turn t u (suc n) found = absurd (cc)
