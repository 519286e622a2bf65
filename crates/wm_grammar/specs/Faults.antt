-- The first symbol that no form continues.
use Rattle.std.specs.Prelude.{◌≡◌, ℕ, List, [], ◌∷◌, ◌++◌, Option, Some, None, Result, Ok, Err}
use Rattle.wm_grammar.specs.Symbols.{Symbol, left_of}
use Rattle.wm_grammar.specs.Forms.{Form}

-- The symbols before it begin the form, and with it they do not. Where no symbol is left, all of them begin the form and are no whole one.
pub record Fault {A : Type 0} (f : Form A) (ts : List Symbol) (left : ℕ) : Type 0 where
  pub before : List Symbol
  pub rest : List Symbol
  pub is : ts ≡ before ++ rest
  pub count : left ≡ left_of rest
  pub begins : f.Begins before
  pub bad : (t : Symbol) (e : List Symbol) → rest ≡ t ∷ e → f.Begins (before ++ t ∷ []) → ⊥
  pub unfinished : rest ≡ [] → (x : A) → f.Whole before x → ⊥

-- what a reader says of all the symbols: the value where none is left, else how many bytes are left
abbrev pub ended : {A : Type 0} → A → List Symbol → Result A ℕ
ended x [] = Ok x
ended x (t ∷ ts) = Err t.left

abbrev pub all_of : {A : Type 0} → Result (A × List Symbol) ℕ → Result A ℕ
all_of (Ok q) = ended q.0 q.1
all_of (Err n) = Err n

-- the value of the symbols where they are a whole one
abbrev pub value_in : {A : Type 0} → Result A ℕ → Option A
value_in (Ok x) = Some x
value_in (Err n) = None
