-- Pieces as stretches of what they say.
use Rattle.std.specs.Prelude.{List, map}
use Rattle.wm_net.specs.Listed.{Stretch}
use Rattle.wm_period.specs.Pieces.{Held, held}
use Rattle.wm_period.specs.declared.piece.Piece.{Piece}

-- what a piece says over its period
abbrev pub as_stretch : Piece → Stretch Held
as_stretch x = record { from = x.period.from; till = x.period.till; value = held x }

abbrev pub as_stretches : List Piece → List (Stretch Held)
as_stretches xs = map as_stretch xs
