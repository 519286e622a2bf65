-- Pieces of one key: what stands at each moment.
use Rattle.std.specs.Prelude.{ℕ, ◌<◌, ◌≤◌, ◌≡◌, Bool, nat_lt, List, [], ◌∷◌, ◌++◌, min, max, Option, None}
use Rattle.std.specs.Bool.{then_some}
use Rattle.std.specs.Option.{option_or}
use Rattle.std.specs.List.{filter_map}
use Rattle.wm_base.specs.Period.{Span, covers}
use Rattle.wm_base.specs.declared.instant.TheConstants.{END}
use Rattle.wm_base.specs.declared.kind.Kind.{Kind}
use Rattle.wm_base.specs.declared.stamp.Stamp.{Stamp}
use Rattle.wm_period.specs.declared.piece.Piece.{Piece}

-- what a piece says of each moment of its period
pub record Held : Type 0 where
  pub stamp : Stamp
  pub kind : Kind
  pub gone : Bool

abbrev pub held : Piece → Held
held p = record { stamp = p.stamp; kind = p.kind; gone = p.gone }

-- what the pieces hold at a moment: what the first piece that covers it says
abbrev pub held_at : List Piece → ℕ → Option Held
held_at [] t = None
held_at (p ∷ ps) t = option_or (then_some (covers p.period t) (held p)) (held_at ps t)

-- the pieces lie one after another between the two instants, and none is empty
abbrev pub Between : ℕ → List Piece → ℕ → Type 0
Between low [] high = low ≤ high
Between low (p ∷ ps) high = (low ≤ p.period.from) × (p.period.from < p.period.till) × Between p.period.till ps high

-- what a piece has from one instant to another
abbrev pub part_in : ℕ → ℕ → Piece → Option Piece
part_in from till p =
    then_some (nat_lt (max p.period.from from) (min p.period.till till))
    (record p { period = record { from = max p.period.from from; till = min p.period.till till } })

-- what the pieces have from one instant to another
abbrev pub parts_in : ℕ → ℕ → List Piece → List Piece
parts_in from till ps = filter_map (part_in from till) ps

-- the pieces with one over them: what they have before it, the piece, and what they have after it
abbrev pub put_in : Piece → List Piece → List Piece
put_in p ps = parts_in 0 p.period.from ps ++ p ∷ parts_in p.period.till END ps

-- the pieces without a period: what they have before it, and what they have after it
abbrev pub erase_in : Span → List Piece → List Piece
erase_in q ps = parts_in 0 q.from ps ++ parts_in q.till END ps

-- a piece does not begin the list where it could be one with its first: where it meets it and says the same
abbrev pub IsApart : Piece → List Piece → Type 0
IsApart p [] = Unit {0}
IsApart p (q ∷ qs) = p.period.till ≡ q.period.from → held p ≡ held q → ⊥

-- no two neighbours could be one piece
abbrev pub IsJoined : List Piece → Type 0
IsJoined [] = Unit {0}
IsJoined (p ∷ ps) = IsApart p ps × IsJoined ps

-- all pieces have ended by an instant
abbrev pub EndBy : ℕ → List Piece → Type 0
EndBy at [] = Unit {0}
EndBy at (p ∷ ps) = (p.period.till ≤ at) × EndBy at ps

-- from an instant on: the upper pieces, and what the lower ones have between them
abbrev pub over_from : ℕ → List Piece → List Piece → List Piece
over_from from lower [] = parts_in from END lower
over_from from lower (u ∷ us) = parts_in from u.period.from lower ++ u ∷ over_from u.period.till lower us

-- the piece that stands for two that meet and say the same
abbrev pub longer : Piece → Piece → Piece
longer p q = record q { period = record { from = p.period.from; till = q.period.till } }

-- a piece meets the first of a list and says the same, and the two are one piece
abbrev pub JoinsFirst : Piece → List Piece → Piece → Type 0
JoinsFirst p [] whole = ⊥
JoinsFirst p (q ∷ qs) whole = (p.period.till ≡ q.period.from) × (held p ≡ held q) × (whole ≡ longer p q)
