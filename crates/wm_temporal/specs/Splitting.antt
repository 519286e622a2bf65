-- What a piece has of some moments, and the three parts of a piece by a period.
use Rattle.std.specs.Prelude.{ℕ, ◌≡◌, ◌<◌, Bool, false, List, ◌++◌, Option, Some, None}
use Rattle.std.specs.Option.{option_to_list}
use Rattle.wm_base.specs.Period.{covers}
use Rattle.wm_period.specs.Pieces.{held}
use Rattle.wm_period.specs.declared.piece.Piece.{Piece}
use Rattle.wm_temporal.specs.declared.splitting.Parts.{Parts}

-- the part says the same as the piece and covers exactly these moments; there is none where there is no such moment
abbrev pub IsPart : Piece → (ℕ → Bool) → Option Piece → Type 0
IsPart piece moments None = (t : ℕ) → moments t ≡ false
IsPart piece moments (Some part) = (held part ≡ held piece) × (part.period.from < part.period.till) × ((t : ℕ) → covers part.period t ≡ moments t)

-- the parts that there are, in turn
abbrev pub in_turn : Parts → List Piece
in_turn parts = option_to_list parts.before ++ option_to_list parts.inside ++ option_to_list parts.after
