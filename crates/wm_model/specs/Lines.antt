-- How a script of bytes is cut into lines.
use Rattle.std.specs.Prelude.{ℕ, Bool, true, false, ◌≡◌, ◌==◌, nat_le, nat_lt, if◌then◌else◌, List, [], ◌∷◌, ◌++◌, length, map, take, replicate}

-- the most bytes that a line may have, once a CR at its end is dropped
abbrev pub line_limit : ℕ
line_limit = 16384

-- the line has at most that many bytes
abbrev pub fits_line : List ℕ → Bool
fits_line line = nat_le (length line) line_limit

-- a byte that stands before the first of the parts; it is a part of its own only where bytes with no LF behind them count
abbrev pub before_first : Bool → ℕ → List (List ℕ) → List (List ℕ)
before_first counts byte [] = if counts then (byte ∷ []) ∷ [] else []
before_first counts byte (part ∷ parts) = (byte ∷ part) ∷ parts

-- the bytes before each LF, and what stands behind the last LF if it counts and is not empty
abbrev pub parts : Bool → List ℕ → List (List ℕ)
parts counts [] = []
parts counts (byte ∷ bytes) = if byte == 10 then [] ∷ parts counts bytes else before_first counts byte (parts counts bytes)

-- the same bytes with one CR at their end dropped
abbrev pub without_cr : List ℕ → List ℕ
without_cr [] = []
without_cr (byte ∷ []) = if byte == 13 then [] else byte ∷ []
without_cr (byte ∷ next ∷ bytes) = byte ∷ without_cr (next ∷ bytes)

abbrev pub lines_of : Bool → List ℕ → List (List ℕ)
lines_of counts bytes = map without_cr (parts counts bytes)

-- the lines of a script: each ends at LF, and the last needs none
abbrev pub lines : List ℕ → List (List ℕ)
lines script = lines_of true script

-- the lines that LF ended
abbrev pub ended_lines : List ℕ → List (List ℕ)
ended_lines bytes = lines_of false bytes

-- a line that does not fit; it stands for all of these, since they are answered alike
unfoldable pub too_long : List ℕ
too_long = replicate 16385 0

-- the line itself, or the one that stands for all that do not fit
abbrev pub cap : List ℕ → List ℕ
cap line = if fits_line line then line else too_long

-- the lines, with one for all that do not fit
abbrev pub capped : Bool → List ℕ → List (List ℕ)
capped counts bytes = map cap (lines_of counts bytes)

-- no byte is LF
abbrev pub HasNoLf : List ℕ → Type 0
HasNoLf [] = Unit {0}
HasNoLf (byte ∷ bytes) = ((byte == 10) ≡ false) × HasNoLf bytes

-- what is held of a line not ended yet, once one byte more came: of the bytes past the first 16,385 one 0 stands for all
abbrev pub held_more : List ℕ → ℕ → List ℕ
held_more held byte = if nat_lt (length held) 16385 then held ++ byte ∷ [] else take 16385 held ++ 0 ∷ []
