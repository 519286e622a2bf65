-- How the values of a kind are spelled in bytes, and how formats join.
use Rattle.std.specs.Prelude.{ℕ, zero, suc, ◌<◌, List, [], ◌∷◌, ◌++◌, length, Option, Some, None}
use Rattle.std.specs.List.{flat_map, AllByRecursion}
use Rattle.std.specs.Option.{option_and_then, option_map}

-- the bytes of a value; what is asked of a value that its type does not say, so that it has a spelling;
-- that it has one; and the value that begins a list of bytes, with the bytes behind it
pub record Format (A : Type 0) : Type 1 where
  pub spell : A → List ℕ
  pub CanSpell : A → Type 0
  pub Fits : A → Type 0
  pub read : List ℕ → Option (A × List ℕ)

-- one field behind another
infixr 5 ◌▸◌
abbrev pub ◌▸◌ : {A B : Type 0} → Format A → Format B → Format (A × B)
first ▸ second = record {
  spell = λ p. first.spell p.0 ++ second.spell p.1;
  CanSpell = λ p. first.CanSpell p.0 × second.CanSpell p.1;
  Fits = λ p. first.Fits p.0 × second.Fits p.1;
  read = λ bytes. option_and_then (λ a. option_and_then (λ b. Some ((a.0, b.0), b.1)) (second.read a.1)) (first.read bytes);
}

-- the values of a kind as their fields
abbrev pub fields : {A B : Type 0} → (A → B) → (B → A) → Format B → Format A
fields parts whole format = record {
  spell = λ a. format.spell (parts a);
  CanSpell = λ a. format.CanSpell (parts a);
  Fits = λ a. format.Fits (parts a);
  read = λ bytes. option_map (λ b. (whole b.0, b.1)) (format.read bytes);
}

-- so many values one behind the other
abbrev pub times : {A : Type 0} → Format A → ℕ → List ℕ → Option (List A × List ℕ)
times item zero bytes = Some ([], bytes)
times item (suc n) bytes =
    option_and_then (λ first. option_and_then (λ others. Some (first.0 ∷ others.0, others.1)) (times item n first.1)) (item.read bytes)

-- a byte, and what is behind it
abbrev pub byte_at : List ℕ → Option (ℕ × List ℕ)
byte_at [] = None
byte_at (b ∷ bytes) = Some (b, bytes)

-- a byte that counts the values, and the values
abbrev pub counted : {A : Type 0} → Format A → Format (List A)
counted item = record {
  spell = λ xs. length xs ∷ flat_map item.spell xs;
  CanSpell = λ xs. (length xs < 256) × AllByRecursion item.CanSpell xs;
  Fits = λ xs. (length xs < 256) × AllByRecursion item.Fits xs;
  read = λ bytes. option_and_then (λ count. times item count.0 count.1) (byte_at bytes);
}

-- a byte for each value
abbrev pub coded : {A : Type 0} → (A → ℕ) → (ℕ → Option A) → Format A
coded code value = record {
  spell = λ a. code a ∷ [];
  CanSpell = λ a. Unit {0};
  Fits = λ a. Unit {0};
  read = λ bytes. option_and_then (λ b. option_map (λ a. (a, b.1)) (value b.0)) (byte_at bytes);
}
