-- A symbol is what the grammar sees of a token.
use Rattle.std.specs.Prelude.{ℕ, Bool, false, List, [], ◌∷◌, ◌==◌, ◌||◌}

-- its sort, its text (a word folded, a text without its quotes), and how many bytes of the line it and all behind it are
pub record Symbol : Type 0 where
  pub sort : ℕ
  pub text : List ℕ
  pub left : ℕ

-- how many bytes of the line these symbols are
abbrev pub left_of : List Symbol → ℕ
left_of [] = 0
left_of (t ∷ ts) = t.left

-- the sort is one of these
abbrev pub has : List ℕ → ℕ → Bool
has [] s = false
has (c ∷ cs) s = (s == c) || has cs s

-- the next symbol is of one of these sorts
abbrev pub next_in : List ℕ → List Symbol → Bool
next_in cs [] = false
next_in cs (t ∷ ts) = has cs t.sort
