-- The stretches of the rows that stand on the pieces of a key, piece by piece.
use Rattle.std.specs.Prelude.{ℕ, ◌≤◌, Bool, false, not, ◌&&◌, ◌==◌, if◌then◌else◌, List, [], ◌∷◌, ◌++◌, Option, None, Some}
use Rattle.std.specs.Option.{option_map, option_to_list}
use Rattle.wm_base.specs.Period.{Span}
use Rattle.wm_period.specs.declared.piece.Piece.{Piece}
use Rattle.wm_spec.specs.Stretches.{Stretch}

-- the row of a piece stands on behind it: the next piece meets it and has a row of the same stamp
abbrev pub goes_on : Piece → List Piece → Bool
goes_on p [] = false
goes_on p (q ∷ qs) = not q.gone && ((p.period.till == q.period.from) && (p.stamp.number == q.stamp.number))

-- where the first piece begins, 0 where there is none
abbrev pub first_from : List Piece → ℕ
first_from [] = 0
first_from (p ∷ ps) = p.period.from

-- where the row of the next piece begins, where that of a piece begins at an instant
abbrev pub from_behind : ℕ → Piece → List Piece → ℕ
from_behind from p rest = if p.gone then first_from rest else (if goes_on p rest then from else first_from rest)

-- the whole period of a row that stands on a piece and not behind it, where it begins at an instant
abbrev pub ending : ℕ → Piece → List Piece → Option Span
ending from p rest =
    let nothing : Option Span = None in
    let whole : Span = record { from = from; till = p.period.till } in
    if p.gone then nothing else (if goes_on p rest then nothing else Some whole)

-- a period on which the row of a stamp stands
abbrev pub stretch_of : ℕ → Span → Stretch
stretch_of stamp period = record { from = period.from; till = period.till; stamp = stamp }

-- the stretch that ends with a piece
abbrev pub stretch_ending : ℕ → Piece → List Piece → List Stretch
stretch_ending from p rest = option_to_list (option_map (stretch_of p.stamp.number) (ending from p rest))

-- the stretches on pieces, where the row of the first begins at an instant
abbrev pub stretches_from : ℕ → List Piece → List Stretch
stretches_from from [] = []
stretches_from from (p ∷ ps) = stretch_ending from p ps ++ stretches_from (from_behind from p ps) ps

-- the stretches on pieces
abbrev pub stretches_on : List Piece → List Stretch
stretches_on ps = stretches_from (first_from ps) ps

-- an instant is not behind the beginning of the first piece
abbrev pub IsBegun : ℕ → List Piece → Type 0
IsBegun from [] = Unit {0}
IsBegun from (p ∷ ps) = from ≤ p.period.from
