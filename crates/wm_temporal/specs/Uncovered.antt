-- What new periods leave of old ones.
use Rattle.std.specs.Prelude.{ℕ, ◌<◌, ◌≤◌, ◌≡◌, ◌+◌, ◌&&◌, not, Bool, true, false, nat_lt, List, [], ◌∷◌, ◌++◌, min, max}
use Rattle.std.specs.Bool.{then_some}
use Rattle.std.specs.List.{flat_map}
use Rattle.std.specs.Option.{option_to_list}
use Rattle.wm_base.specs.Period.{Span, covers}
use Rattle.wm_period.specs.Periods.{covered}

-- the periods lie one after another between the two instants, and none is empty; neighbours may meet
abbrev pub Follow : ℕ → List Span → ℕ → Type 0
Follow low [] high = low ≤ high
Follow low (p ∷ ps) high = (low ≤ p.from) × (p.from < p.till) × Follow p.till ps high

-- the period from one instant to another, if the first is below the second
abbrev pub stretch : ℕ → ℕ → List Span
stretch from till = option_to_list (then_some (nat_lt from till) (record { from = from; till = till }))

-- what periods in order leave free from one instant to another
abbrev pub free : ℕ → ℕ → List Span → List Span
free from till [] = stretch from till
free from till (p ∷ ps) = stretch from (min p.from till) ++ free (max from p.till) till ps

-- what the new periods leave free of each old one, one old period after another
abbrev pub uncovered : List Span → List Span → List Span
uncovered olds news = flat_map (λ old. free old.from old.till news) olds

-- the old period has the moment, and no new one does
abbrev pub is_left : List Span → Span → ℕ → Bool
is_left news old t = covers old t && not (covered news t)

-- a longest period of what is left of an old one: all its moments are left, and neither the moment before it nor the one after it
pub record IsLongest (news : List Span) (old part : Span) : Type 0 where
  pub within : (t : ℕ) → covers part t ≡ true → is_left news old t ≡ true
  pub before : (t : ℕ) → t + 1 ≡ part.from → is_left news old t ≡ false
  pub after : is_left news old part.till ≡ false
