-- Lists whose keys rise, and places in them.
use Rattle.std.specs.Prelude.{◌≡◌, ℕ, zero, suc, ◌+◌, ◌<◌, ◌≤◌, List, [], ◌∷◌}

module _ {A : Type 0} (key : A → ℕ) where
  -- the keys rise, from a bound on
  abbrev pub RiseFrom : ℕ → List A → Type 0
  RiseFrom low [] = Unit {0}
  RiseFrom low (e ∷ es) = (low ≤ key e) × RiseFrom (key e + 1) es

  -- a key stands at a place, behind smaller ones
  abbrev pub StandsAt : ℕ → List A → ℕ → Type 0
  StandsAt n [] place = ⊥
  StandsAt n (e ∷ es) zero = key e ≡ n
  StandsAt n (e ∷ es) (suc place) = (key e < n) × StandsAt n es place

  -- a key may be put at a place: behind smaller ones, and before a greater one or the end
  abbrev pub FitsAt : ℕ → List A → ℕ → Type 0
  FitsAt n [] zero = Unit {0}
  FitsAt n [] (suc place) = ⊥
  FitsAt n (e ∷ es) zero = n < key e
  FitsAt n (e ∷ es) (suc place) = (key e < n) × FitsAt n es place
