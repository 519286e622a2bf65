-- Forms of a grammar: which symbols are a whole one, with its value, and which begin one.
use Rattle.std.specs.Prelude.{◌≡◌, ℕ, ◌⊎◌, List, [], ◌∷◌, ◌++◌, Option, Some, None}
use Rattle.wm_grammar.specs.Symbols.{Symbol}

infixr 5 ◌or◌
infixl 10 ◌>>=◌
infixl 10 ◌>>◌
pub record Form (A : Type 0) : Type 1 where
  pub Whole : List Symbol → A → Type 0  -- these symbols are a whole one, and stand for this value
  pub Begins : List Symbol → Type 0  -- these symbols begin one

-- nothing, which stands for this value
abbrev pub gives : {A : Type 0} → A → Form A
gives x = record {
  Whole = λ ts y. (ts ≡ []) × (y ≡ x);
  Begins = λ ts. ts ≡ [];
}

-- a symbol of this sort that has a value: nothing begins it, and it begins itself
abbrev pub one_for : {A : Type 0} → ℕ → (Symbol → Option A) → Form A
one_for {A} sort value = record {
  Whole = λ ts y. (t : Symbol) × (ts ≡ t ∷ []) × (t.sort ≡ sort) × (value t ≡ Some y);
  Begins = λ ts. (ts ≡ []) ⊎ ((t : Symbol) × (y : A) × (ts ≡ t ∷ []) × (t.sort ≡ sort) × (value t ≡ Some y));
}

-- a word or mark of its own, of which nothing is kept
abbrev pub mark : ℕ → Form (Unit {0})
mark sort = one_for sort (λ _. Some tt)

-- the text of a symbol of this sort
abbrev pub text_of : ℕ → Form (List ℕ)
text_of sort = one_for sort (λ t. Some t.text)

-- no symbol continues it
abbrev pub never : {A : Type 0} → Form A
never = record {
  Whole = λ ts y. ⊥;
  Begins = λ ts. ts ≡ [];
}

-- a first part, and then a part that may depend on the first one's value
abbrev pub ◌>>=◌ : {A B : Type 0} → Form A → (A → Form B) → Form B
f >>= g = record {
  Whole = λ ts y. (x : _) × (u : List Symbol) × (v : List Symbol) × (ts ≡ u ++ v) × f.Whole u x × (g x).Whole v y;
  Begins = λ ts. f.Begins ts ⊎ ((x : _) × (u : List Symbol) × (v : List Symbol) × (ts ≡ u ++ v) × f.Whole u x × (g x).Begins v);
}

abbrev pub ◌>>◌ : {A B : Type 0} → Form A → Form B → Form B
f >> g = f >>= λ _. g

-- one of two
abbrev pub ◌or◌ : {A : Type 0} → Form A → Form A → Form A
f or g = record {
  Whole = λ ts y. f.Whole ts y ⊎ g.Whole ts y;
  Begins = λ ts. f.Begins ts ⊎ g.Begins ts;
}

-- a part in square brackets
abbrev pub optional : {A : Type 0} → Form A → Form (Option A)
optional f = (f >>= λ x. gives (Some x)) or gives None

-- items one after another, whose form may depend on a state that each item changes
abbrev pub Items : {S B : Type 0} → (S → B → S) → (S → Form B) → S → List Symbol → List B → Type 0
Items after item s ts [] = ts ≡ []
Items after item s ts (x ∷ xs) = (u : List Symbol) × (v : List Symbol) × (ts ≡ u ++ v) × (item s).Whole u x × Items after item (after s x) v xs

-- these items, and a beginning of one more
abbrev pub OneMore : {S B : Type 0} → (S → B → S) → (S → Form B) → S → List Symbol → List B → Type 0
OneMore after item s ts [] = (item s).Begins ts
OneMore after item s ts (x ∷ xs) = (u : List Symbol) × (v : List Symbol) × (ts ≡ u ++ v) × (item s).Whole u x × OneMore after item (after s x) v xs

abbrev pub many_from : {S B : Type 0} → (S → B → S) → (S → Form B) → S → Form (List B)
many_from {S} {B} after item s = record {
  Whole = Items after item s;
  Begins = λ ts. (xs : List B) × OneMore after item s ts xs;
}

-- items of one form
abbrev pub many : {B : Type 0} → Form B → Form (List B)
many item = many_from {S = Unit {0}} (λ s _. s) (λ _. item) tt
