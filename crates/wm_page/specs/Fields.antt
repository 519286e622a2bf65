-- Where the fields of a page stand. Numbers are written with their highest byte first.
use Rattle.std.specs.Prelude.{ℕ, ◌+◌, List, ◌++◌, length, take, drop}
use Rattle.byteorder.specs.Endian.{big_number, big_bytes}

-- the number in the eight bytes from this place on
unfoldable pub number_at : List ℕ → ℕ → ℕ
number_at bytes at = big_number 8 (take 8 (drop at bytes))

-- the eight bytes of a number
unfoldable pub eight_bytes : ℕ → List ℕ
eight_bytes number = big_bytes 8 number

-- the bytes with these in place of as many from this place on
abbrev pub with_bytes : List ℕ → ℕ → List ℕ → List ℕ
with_bytes bytes at new = take at bytes ++ new ++ drop (at + length new) bytes
