-- Pieces in order as a walk from their front to their back has them.
use Rattle.std.specs.Prelude.{ℕ, ◌≡◌, ◌<◌, ◌≤◌, true, List, [], ◌∷◌, None, is_some}
use Rattle.wm_base.specs.declared.instant.TheConstants.{END}
use Rattle.wm_period.specs.Pieces.{Between, held_at}
use Rattle.wm_period.specs.declared.piece.Piece.{Piece}

-- the first of them is not over at an instant
abbrev pub GoesPast : ℕ → List Piece → Type 0
GoesPast at [] = Unit {0}
GoesPast at (p ∷ ps) = at < p.period.till

-- they lie in order, and none of them is over at an instant
pub record IsAhead (at : ℕ) (ps : List Piece) : Type 0 where
  pub order : Between 0 ps END
  pub goes : GoesPast at ps

-- what is left of pieces at an instant
pub record IsLeft (ps : List Piece) (at : ℕ) (left : List Piece) : Type 0 where
  pub ahead : IsAhead at left
  pub same : (t : ℕ) → at ≤ t → held_at left t ≡ held_at ps t

-- something is held at an instant, and nothing from another one on before it
pub record HoldsNext (ps : List Piece) (at next : ℕ) : Type 0 where
  pub later : at ≤ next
  pub held : is_some (held_at ps next) ≡ true
  pub before : (t : ℕ) → at ≤ t → t < next → held_at ps t ≡ None
