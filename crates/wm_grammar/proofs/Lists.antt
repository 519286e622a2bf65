-- Lists in two pieces, and lists of sorts.
use Rattle.std.proofs.Common.{◌≡◌, ℕ, Bool, true, false, List, [], ◌∷◌, ◌++◌, refl, sym, inl, inr}
use Rattle.std.specs.Prelude.{◌⊎◌, ◌==◌, ◌&&◌}
use Rattle.std.proofs.lemmas.Bool.{eqb-true, and_parts, eq-eqb, or_cases, or_left, or_right}
use Rattle.wm_grammar.specs.Symbols.{has}

-- ---- two ways to cut one list

-- the second cut is at the first or behind it
pub record Behind {A : Type 0} (a b c d : List A) : Type 0 where
  pub between : List A
  pub front : c ≡ a ++ between
  pub back : b ≡ between ++ d

-- the second cut is before the first
pub record Before {A : Type 0} (a b c d : List A) : Type 0 where
  pub next : A
  pub between : List A
  pub front : a ≡ c ++ next ∷ between
  pub back : d ≡ next ∷ between ++ b

pub two_cuts : {A : Type 0} (a b c d : List A) → a ++ b ≡ c ++ d → Behind a b c d ⊎ Before a b c d
two_cuts [] b c d e = inl record { between = c; front = refl; back = e }
two_cuts (x ∷ a) b [] d e = inr record { next = x; between = a; front = refl; back = sym e }
two_cuts {A} (x ∷ a) b (y ∷ c) d e =
    let head : x ≡ y = cc in
    let tail : a ++ b ≡ c ++ d = cc in
    elim (two_cuts a b c d tail) as (λ _. Behind (x ∷ a) b (y ∷ c) d ⊎ Before (x ∷ a) b (y ∷ c) d) [
      | inl p ↦ inl record { between = p.between; front = cc (p.front); back = p.back }
      | inr p ↦ inr record { next = p.next; between = p.between; front = cc (p.front); back = p.back }
    ]

-- ---- lists of sorts

abbrev pub joins : Bool → List ℕ → List ℕ → List ℕ
joins true xs ys = xs ++ ys
joins false xs ys = xs

abbrev pub within : List ℕ → List ℕ → Bool
within [] ys = true
within (x ∷ xs) ys = has ys x && within xs ys

abbrev pub off : Bool → Bool
off true = false
off false = true

abbrev pub apart : List ℕ → List ℕ → Bool
apart [] ys = true
apart (x ∷ xs) ys = off (has ys x) && apart xs ys

pub off_true : (a : Bool) → off a ≡ true → a ≡ true → ⊥
off_true true e h = cc
off_true false e h = cc

pub within_has : (xs ys : List ℕ) (s : ℕ) → within xs ys ≡ true → has xs s ≡ true → has ys s ≡ true
within_has [] ys s w h = absurd cc
within_has (x ∷ xs) ys s w h =
    let w2 = and_parts (has ys x) (within xs ys) w in
    elim (or_cases (s == x) (has xs s) h) [
      | inl e ↦ let is : s ≡ x = eqb-true s x e in rw is w2.0
      | inr e ↦ within_has xs ys s w2.1 e
    ]

pub apart_has : (xs ys : List ℕ) (s : ℕ) → apart xs ys ≡ true → has xs s ≡ true → has ys s ≡ true → ⊥
apart_has [] ys s w h k = cc
apart_has (x ∷ xs) ys s w h k =
    let w2 = and_parts (off (has ys x)) (apart xs ys) w in
    elim (or_cases (s == x) (has xs s) h) [
      | inl e ↦ let is : x ≡ s = sym (eqb-true s x e) in off_true (has ys x) w2.0 (rw is k)
      | inr e ↦ apart_has xs ys s w2.1 e k
    ]

pub has_left : (xs ys : List ℕ) (s : ℕ) → has xs s ≡ true → has (xs ++ ys) s ≡ true
has_left [] ys s h = absurd cc
has_left (x ∷ xs) ys s h =
    elim (or_cases (s == x) (has xs s) h) [
      | inl e ↦ or_left (s == x) (has (xs ++ ys) s) e
      | inr e ↦ or_right (s == x) (has (xs ++ ys) s) (has_left xs ys s e)
    ]

pub has_right : (xs ys : List ℕ) (s : ℕ) → has ys s ≡ true → has (xs ++ ys) s ≡ true
has_right [] ys s h = h
has_right (x ∷ xs) ys s h = or_right (s == x) (has (xs ++ ys) s) (has_right xs ys s h)

pub joins_left : (b : Bool) (xs ys : List ℕ) (s : ℕ) → has xs s ≡ true → has (joins b xs ys) s ≡ true
joins_left true xs ys s h = has_left xs ys s h
joins_left false xs ys s h = h

pub joins_right : (b : Bool) (xs ys : List ℕ) (s : ℕ) → b ≡ true → has ys s ≡ true → has (joins b xs ys) s ≡ true
joins_right true xs ys s e h = has_right xs ys s h
joins_right false xs ys s e h = absurd cc

pub apart_nil : (xs : List ℕ) → apart xs [] ≡ true
apart_nil [] = refl
apart_nil (x ∷ xs) = apart_nil xs

within_more : (x : ℕ) (xs ys : List ℕ) → within xs ys ≡ true → within xs (x ∷ ys) ≡ true
within_more x [] ys e = refl
within_more x (z ∷ xs) ys e =
    let w = and_parts (has ys z) (within xs ys) e in
    rw (or_right (z == x) (has ys z) w.0, within_more x xs ys w.1) refl

pub within_itself : (xs : List ℕ) → within xs xs ≡ true
within_itself [] = refl
within_itself (x ∷ xs) = rw (or_left (x == x) (has xs x) (eq-eqb x x refl), within_more x xs xs (within_itself xs)) refl
