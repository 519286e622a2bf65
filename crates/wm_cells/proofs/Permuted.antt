-- Whether items differ does not depend on their order.
use Rattle.std.proofs.Common.{◌≡◌, ℕ, ◌<◌, Bool, true, false, not, ◌&&◌, ◌||◌, List, [], ◌∷◌, length, zero, suc, refl, ap, ◌∙◌, arith, get_or}
use Rattle.std.proofs.Math.ListN.{set}
use Rattle.std.proofs.lemmas.List.Sorted.{IsPermutation-keeps}
use Rattle.std.specs.List.{list_any, list_all, swap}
use Rattle.std.specs.List.Sorted.{IsPermutation}
use Rattle.wm_base.proofs.Plain.{and_swap, or_swap}
use Rattle.wm_graph.specs.Rules.{differ}

-- A relation holds along each permutation if it is reflexive and transitive, and goes under a head and over an exchange of two heads.
module _ {X : Type 0} (R : List X → List X → Type 0) (same : (xs : List X) → R xs xs)
    (skip : (x : X) (xs ys : List X) → R xs ys → R (x ∷ xs) (x ∷ ys))
    (turn : (x y : X) (xs : List X) → R (x ∷ y ∷ xs) (y ∷ x ∷ xs))
    (chain : (xs ys zs : List X) → R xs ys → R ys zs → R xs zs) where
  to_head : (l : List X) (j : ℕ) (x d : X) → j < length l → R (x ∷ l) (get_or l j d ∷ set l j x)
  to_head [] j x d h = absurd (omega arith)
  to_head (y ∷ l) zero x d h = turn x y l
  to_head (y ∷ l) (suc j) x d h =
      chain _ _ _ (turn x y l) (chain _ _ _ (skip y _ _ (to_head l j x d (omega arith))) (turn y (get_or l j d) (set l j x)))

  exchanged : (l : List X) (i j : ℕ) (d : X) → i < length l → j < length l → R l (set (set l i (get_or l j d)) j (get_or l i d))
  exchanged [] i j d p q = absurd (omega arith)
  exchanged (x ∷ l) zero zero d p q = same (x ∷ l)
  exchanged (x ∷ l) zero (suc j) d p q = to_head l j x d (omega arith)
  exchanged (x ∷ l) (suc i) zero d p q = to_head l i x d (omega arith)
  exchanged (x ∷ l) (suc i) (suc j) d p q = skip x _ _ (exchanged l i j d (omega arith) (omega arith))

  swapped : (l : List X) (i j : ℕ) → i < length l → j < length l → R l (swap l i j)
  swapped [] i j p q = same []
  swapped (x ∷ l) i j p q = exchanged (x ∷ l) i j x p q

  along_permutation : (xs ys : List X) → IsPermutation xs ys → R xs ys
  along_permutation xs = IsPermutation-keeps xs (R xs) (same xs) (λ l i j p q h. chain xs l _ h (swapped l i j p q))

-- some pass each test, all do and they differ, in the one where in the other
record Alike {X : Type 0} (test : X → X → Bool) (xs ys : List X) : Type 0 where
  passes : (p : X → Bool) → list_any p xs ≡ list_any p ys
  all : (p : X → Bool) → list_all p xs ≡ list_all p ys
  differs : differ test xs ≡ differ test ys

either_head : (a b c d : Bool) → (not (a || b) && (not c && d)) ≡ (not (a || c) && (not b && d))
either_head true b c d = refl
either_head false true true d = refl
either_head false true false d = refl
either_head false false true d = refl
either_head false false false d = refl

alike_permuted : {X : Type 0} (test : X → X → Bool) → ((x y : X) → test x y ≡ test y x) → (xs ys : List X) → IsPermutation xs ys → Alike test xs ys
alike_permuted {X} test symmetric = along_permutation (Alike test) same skip turn chain
  where
    same : (l : List X) → Alike test l l
    same l = record { passes = λ p. refl; all = λ p. refl; differs = refl }

    skip : (x : X) (l m : List X) → Alike test l m → Alike test (x ∷ l) (x ∷ m)
    skip x l m a = record {
      passes = λ p. ap (λ b. p x || b) (a.passes p);
      all = λ p. ap (λ b. p x && b) (a.all p);
      differs = rw (a.passes (test x), a.differs) refl;
    }

    turn : (x y : X) (l : List X) → Alike test (x ∷ y ∷ l) (y ∷ x ∷ l)
    turn x y l = record {
      passes = λ p. or_swap (p x) (p y) (list_any p l);
      all = λ p. and_swap (p x) (p y) (list_all p l);
      differs = rw (symmetric x y) (either_head (test y x) (list_any (test x) l) (list_any (test y) l) (differ test l));
    }

    chain : (l m n : List X) → Alike test l m → Alike test m n → Alike test l n
    chain l m n a b = record { passes = λ p. a.passes p ∙ b.passes p; all = λ p. a.all p ∙ b.all p; differs = a.differs ∙ b.differs }

pub differ_permuted : {X : Type 0} (test : X → X → Bool) → ((x y : X) → test x y ≡ test y x) → (xs ys : List X) → IsPermutation xs ys → differ test xs ≡ differ test ys
differ_permuted test symmetric xs ys moved = (alike_permuted test symmetric xs ys moved).differs

pub all_permuted : {X : Type 0} (p : X → Bool) (xs ys : List X) → IsPermutation xs ys → list_all p xs ≡ list_all p ys
all_permuted p xs ys moved = (alike_permuted (λ _ _. true) (λ _ _. refl) xs ys moved).all p
