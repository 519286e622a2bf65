-- What the greatest of a list tells: whether one of it is at a limit or beyond, and whether each is below. Lists that answer alike at
-- every limit have one greatest.
use Rattle.std.proofs.Common.{◌≡◌, ℕ, ◌+◌, nat_le, nat_lt, Bool, true, false, ◌&&◌, ◌||◌, cond, List, [], ◌∷◌, refl, sym, ap, ◌∙◌, arith}
use Rattle.std.specs.List.{filter, list_all, list_any}
use Rattle.wm_outline.specs.Outline.{top}

module _ {A : Type 0} (what : A → ℕ) where
  -- some is beyond a limit
  pub beyond_top : (limit : ℕ) (xs : List A) → list_any (λ x. nat_lt limit (what x)) xs ≡ nat_lt (limit + 1) (top what xs)
  beyond_top limit [] = grind (arith)
  beyond_top limit (x ∷ xs) = grind (arith, beyond_top limit xs)

  -- some is at a limit or beyond
  pub reached_top : (limit : ℕ) (xs : List A) → list_any (λ x. nat_le limit (what x)) xs ≡ nat_lt limit (top what xs)
  reached_top limit [] = grind (arith)
  reached_top limit (x ∷ xs) = grind (arith, reached_top limit xs)

  -- each is below
  pub below_top : (place : ℕ) (xs : List A) → list_all (λ x. nat_lt (what x) place) xs ≡ nat_le (top what xs) place
  below_top place [] = grind (arith)
  below_top place (x ∷ xs) = grind (arith, below_top place xs)

same_limits : (a b : ℕ) → ((limit : ℕ) → nat_lt limit a ≡ nat_lt limit b) → a ≡ b
same_limits a b same = let one = same a in let two = same b in grind (arith, one, two)

pub tops_same : {A B : Type 0} (what : A → ℕ) (that : B → ℕ) (xs : List A) (ys : List B) → ((limit : ℕ) → list_any (λ x. nat_le limit (what x)) xs ≡ list_any (λ y. nat_le limit (that y)) ys)
    → top what xs ≡ top that ys
tops_same what that xs ys same = same_limits (top what xs) (top that ys) (λ limit. sym (reached_top what limit xs) ∙ same limit ∙ reached_top that limit ys)

-- a test of those that pass another one
pub any_filtered : {A : Type 0} (keeps test : A → Bool) (xs : List A) → list_any test (filter keeps xs) ≡ list_any (λ x. keeps x && test x) xs
any_filtered keeps test [] = refl
any_filtered keeps test (x ∷ xs) = by_test (keeps x) (any_filtered keeps test xs)
  where
    by_test : (b : Bool) → list_any test (filter keeps xs) ≡ list_any (λ y. keeps y && test y) xs
        → list_any test (cond b (x ∷ filter keeps xs) (filter keeps xs)) ≡ ((b && test x) || list_any (λ y. keeps y && test y) xs)
    by_test true rest = ap (λ t. test x || t) rest
    by_test false rest = rest
