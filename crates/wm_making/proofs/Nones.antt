-- What tests say, and what is known where a refusal is none.
use Rattle.std.proofs.Common.{◌≡◌, ℕ, Bool, true, false, cond, List, ◌++◌, refl, sym, ap, ◌∙◌}
use Rattle.std.proofs.lemmas.List.Folds.{list_any-append}
use Rattle.std.proofs.lemmas.Slice.Eq.{bytes_eq-Decides}
use Rattle.std.specs.List.{list_any}
use Rattle.std.specs.Str.{bytes_eq}
use Rattle.std.specs.Prelude.{Option, Some, None, ◌||◌}

-- a choice of something gives nothing: the other was chosen
pub if_none : {A : Type 0} (test : Bool) (x : A) (rest : Option A) → cond test (Some x) rest ≡ None → (test ≡ false) × (rest ≡ None)
if_none true x rest none = absurd (cc)
if_none false x rest none = (refl, none)

pub if_not_none : {A : Type 0} (test : Bool) (x : A) (rest : Option A) → cond test rest (Some x) ≡ None → (test ≡ true) × (rest ≡ None)
if_not_none true x rest none = (refl, none)
if_not_none false x rest none = absurd (cc)

pub or_true : (a : Bool) → (a || (true || false)) ≡ true
or_true true = refl
or_true false = refl

-- ---- names

-- what one of them passes, one of more passes
pub still : {A : Type 0} (test : A → Bool) (xs ys : List A) → list_any test xs ≡ true → list_any test (xs ++ ys) ≡ true
still test xs ys there = list_any-append test xs ys ∙ ap (λ b. b || list_any test ys) there

pub same_bytes : (name : List ℕ) → bytes_eq name name ≡ true
same_bytes name = (bytes_eq-Decides name name).1 refl

pub same_name : (name other : List ℕ) → bytes_eq name other ≡ true → name ≡ other
same_name name other = (bytes_eq-Decides name other).0

-- names of which a test says different things are different
pub another : (name other : List ℕ) (test : List ℕ → Bool) → test name ≡ true → test other ≡ false → bytes_eq name other ≡ false
another name other test passes fails = by_test (bytes_eq name other) refl
  where
    by_test : (b : Bool) → bytes_eq name other ≡ b → b ≡ false
    by_test false is = refl
    by_test true is = let same = same_name name other is in absurd (let e : true ≡ false = sym passes ∙ ap test same ∙ fails in cc)
