-- Readers: what a form finds at the front of the symbols.
use Rattle.std.specs.Prelude.{ℕ, zero, suc, ◌==◌, if◌then◌else◌, List, [], ◌∷◌, length, Option, Some, None, Result, Ok, Err}
use Rattle.wm_grammar.specs.Symbols.{Symbol, left_of, next_in}

infixl 10 ◌>>=◌
infixl 10 ◌>>◌
-- the value and the symbols behind it, or how many bytes are left from the first symbol that does not go on
abbrev pub Reader : Type 0 → Type 0
Reader A = List Symbol → Result (A × List Symbol) ℕ

abbrev pub bind : {A B : Type 0} → Result A ℕ → (A → Result B ℕ) → Result B ℕ
bind (Ok x) f = f x
bind (Err n) f = Err n

abbrev pub ◌>>=◌ : {A B : Type 0} → Reader A → (A → Reader B) → Reader B
r >>= s = λ ts. bind (r ts) (λ q. s q.0 q.1)

abbrev pub ◌>>◌ : {A B : Type 0} → Reader A → Reader B → Reader B
r >> s = r >>= λ _. s

abbrev pub gives_at : {A : Type 0} → A → Reader A
gives_at x ts = Ok (x, ts)

abbrev pub never_at : {A : Type 0} → Reader A
never_at ts = Err (left_of ts)

-- a symbol with a value is taken
abbrev pub taken : {A : Type 0} → Option A → Symbol → List Symbol → Result (A × List Symbol) ℕ
taken None t ts = Err t.left
taken (Some y) t ts = Ok (y, ts)

abbrev pub one_for_at : {A : Type 0} → ℕ → (Symbol → Option A) → Reader A
one_for_at sort value [] = Err 0
one_for_at sort value (t ∷ ts) = if t.sort == sort then taken (value t) t ts else Err t.left

abbrev pub mark_at : ℕ → Reader (Unit {0})
mark_at sort = one_for_at sort (λ _. Some tt)

abbrev pub text_at : ℕ → Reader (List ℕ)
text_at sort = one_for_at sort (λ t. Some t.text)

-- the first choice where the next symbol is of one of these sorts
abbrev pub choose_at : {A : Type 0} → List ℕ → Reader A → Reader A → Reader A
choose_at cs r s ts = if next_in cs ts then r ts else s ts

abbrev pub optional_at : {A : Type 0} → List ℕ → Reader A → Reader (Option A)
optional_at cs r = choose_at cs (r >>= λ x. gives_at (Some x)) (gives_at None)

-- items while the next symbol is of a sort that begins one; there are no more of them than symbols
abbrev pub turns_at : {S B : Type 0} → (S → B → S) → (S → List ℕ) → (S → Reader B) → ℕ → S → Reader (List B)
turns_at after cs item zero s = gives_at []
turns_at after cs item (suc n) s = choose_at (cs s) (item s >>= λ x. turns_at after cs item n (after s x) >>= λ xs. gives_at (x ∷ xs)) (gives_at [])

abbrev pub many_from_at : {S B : Type 0} → (S → B → S) → (S → List ℕ) → (S → Reader B) → S → Reader (List B)
many_from_at after cs item s ts = turns_at after cs item (length ts) s ts

abbrev pub many_at : {B : Type 0} → List ℕ → Reader B → Reader (List B)
many_at cs item = many_from_at {S = Unit {0}} (λ s _. s) (λ _. cs) (λ _. item) tt
