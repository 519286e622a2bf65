-- The next symbol, and those behind it.
use Rattle.std.specs.Prelude.{ℕ, Bool, true, false, List, [], ◌∷◌}
use Rattle.wm_grammar.specs.Symbols.{Symbol}
use Rattle.wm_grammar.specs.Sorts as sorts

-- the sort of the next symbol
abbrev pub next_sort : List Symbol → ℕ
next_sort [] = sorts.END
next_sort (t ∷ ts) = t.sort

abbrev pub next_text : List Symbol → List ℕ
next_text [] = []
next_text (t ∷ ts) = t.text

-- the symbols behind the next one
abbrev pub behind : List Symbol → List Symbol
behind [] = []
behind (t ∷ ts) = ts

-- no symbol is left
abbrev pub no_more : List Symbol → Bool
no_more [] = true
no_more (t ∷ ts) = false
