-- What a cursor knows of the token at which it stands.
use Rattle.std.specs.Prelude.{◌≡◌, ℕ, ◌≤◌, ◌<◌, ◌^◌, List, [], ◌∷◌, length}
use Rattle.wm_lexer.specs.Scanning.{token_from}
use Rattle.wm_grammar.specs.Scanned.{word_from}
use Rattle.wm_grammar.specs.Words.{sort_of}
use Rattle.wm_grammar.specs.Sorts as sorts

-- the sort and the size of the token at the front of the bytes
abbrev pub Peeks : List ℕ → ℕ → ℕ → Type 0
Peeks [] code size = (code ≡ sorts.END) × (size ≡ 0)
Peeks (b ∷ bs) code size = (code ≡ sort_of (token_from b bs).0 (word_from b bs)) × (size ≡ (token_from b bs).1)

pub record Fits (rest : List ℕ) (size : ℕ) : Type 0 where
  pub small : length rest < 2 ^ 32
  pub within : size ≤ length rest
