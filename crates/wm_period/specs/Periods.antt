-- Periods that stand in order and do not meet.
use Rattle.std.specs.Prelude.{ℕ, ◌<◌, ◌≤◌, Bool, List, [], ◌∷◌}
use Rattle.std.specs.List.{list_any}
use Rattle.wm_base.specs.Period.{Span, covers}
use Rattle.wm_base.specs.declared.instant.TheConstants.{END}

-- some period covers the moment
abbrev pub covered : List Span → ℕ → Bool
covered ps t = list_any (λ p. covers p t) ps

-- the first period begins after an instant
abbrev pub BeginsAfter : ℕ → List Span → Type 0
BeginsAfter at [] = Unit {0}
BeginsAfter at (p ∷ ps) = at < p.from

-- no period is empty, and each begins after the one before it has ended, so that no two meet
abbrev pub AreApart : List Span → Type 0
AreApart [] = Unit {0}
AreApart (p ∷ ps) = (p.from < p.till) × (p.till ≤ END) × BeginsAfter p.till ps × AreApart ps
