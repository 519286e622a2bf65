-- Lines that say nothing, and names in capitals.
use Rattle.std.specs.Prelude.{ℕ, List, Bool, ◌||◌, ◌==◌, length, take, drop, map, codes}
use Rattle.std.specs.List.{take_while}
use Rattle.std.specs.Str.{bytes_eq}
use Rattle.std.specs.Char.{to_ascii_uppercase}

-- how many bytes at the front pass the test
abbrev pub run_of : (ℕ → Bool) → List ℕ → ℕ
run_of p bytes = length (take_while p bytes)

-- a space or a tab
abbrev pub is_blank : ℕ → Bool
is_blank b = (b == 32) || (b == 9)

-- the line without the blanks at its front
unfoldable pub skip : List ℕ → List ℕ
skip bytes = drop (run_of is_blank bytes) bytes

-- nothing but blanks is left
unfoldable pub is_spent : List ℕ → Bool
is_spent bytes = run_of is_blank bytes == length bytes

-- a line of blanks alone, or one whose first bytes behind the blanks are "--"
unfoldable pub is_remark : List ℕ → Bool
is_remark line = is_spent line || bytes_eq (take 2 (skip line)) (codes "--")

-- a name means its capitals
abbrev pub folded : List ℕ → List ℕ
folded name = map to_ascii_uppercase name
