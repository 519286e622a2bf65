-- Ids by pairs of numbers.
use Rattle.std.proofs.Common.{◌≡◌, ℕ, ◌==◌, ◌&&◌, Bool, true, false, cond, List, refl, sym, ap, ap₂, ◌∙◌}
use Rattle.std.proofs.lemmas.Map.Lookups.{exact_pairs, exact_unsigned}
use Rattle.std.specs.Cmp.{Equal-is, tied_then}
use Rattle.std.specs.Ordering.{nat_cmp, is_eq}
use Rattle.wm_ids.proofs.TableLists.{is_at-number}
use Rattle.wm_ids.specs.Ids.{pair_order}

-- a test for `Equal` is a test for the same numbers
pub pair_tied : (a b : ℕ × ℕ) → is_eq (pair_order a b) ≡ ((a.0 == b.0) && (a.1 == b.1))
pair_tied a b = sym (tied_then (nat_cmp a.0 b.0) (nat_cmp a.1 b.1)) ∙ ap₂ (λ s t. s && t) (is_at-number a.0 b.0) (is_at-number a.1 b.1)

-- pairs that are tied are one
pub pair_same : (a b : ℕ × ℕ) → is_eq (pair_order a b) ≡ true → a ≡ b
pair_same a b tie = exact_pairs nat_cmp nat_cmp exact_unsigned exact_unsigned a b ((Equal-is (pair_order a b)).0 tie)

-- what is changed under a key is what is under the key that is the same
pub changed_pair : (change : List ℕ → List ℕ) (f : ℕ × ℕ → List ℕ) (key q : ℕ × ℕ) → cond (is_eq (pair_order key q)) (change (f key)) (f q) ≡ cond ((key.0 == q.0) && (key.1 == q.1)) (change (f q)) (f q)
changed_pair change f key q = by_test (is_eq (pair_order key q)) refl ∙ ap (λ b. cond b (change (f q)) (f q)) (pair_tied key q)
  where
    by_test : (b : Bool) → is_eq (pair_order key q) ≡ b → cond b (change (f key)) (f q) ≡ cond b (change (f q)) (f q)
    by_test true tie = ap (λ k. change (f k)) (pair_same key q tie)
    by_test false apart = refl

pub changed_number : (change : List ℕ → List ℕ) (f : ℕ → List ℕ) (m n : ℕ) → cond (is_eq (nat_cmp m n)) (change (f m)) (f n) ≡ cond (m == n) (change (f n)) (f n)
changed_number change f m n = by_test (is_eq (nat_cmp m n)) refl ∙ ap (λ b. cond b (change (f n)) (f n)) (is_at-number m n)
  where
    by_test : (b : Bool) → is_eq (nat_cmp m n) ≡ b → cond b (change (f m)) (f n) ≡ cond b (change (f n)) (f n)
    by_test true tie = ap (λ k. change (f k)) (exact_unsigned m n ((Equal-is (nat_cmp m n)).0 tie))
    by_test false apart = refl
