-- The first savepoint whose place was made on a date or later, of savepoints in any order.
use Rattle.std.specs.Prelude.{ℕ, ◌&&◌, ◌||◌, ◌==◌, Bool, nat_le, nat_lt, if◌then◌else◌, List, [], ◌∷◌, Option, Some, None}
use Rattle.std.specs.Bool.{then_some}
use Rattle.wm_spec.specs.declared.record.savepoint.Savepoint.{Savepoint}

-- one savepoint stands at a lesser place than another, or at the same and was made before it
abbrev pub is_sooner : Savepoint → Savepoint → Bool
is_sooner x y = nat_lt x.place y.place || ((x.place == y.place) && nat_lt x.making y.making)

-- the sooner of two, where there are both
abbrev pub sooner : Option Savepoint → Option Savepoint → Option Savepoint
sooner None other = other
sooner (Some x) None = Some x
sooner (Some x) (Some y) = if is_sooner y x then Some y else Some x

-- the place of the savepoint was made on a date or later
abbrev pub is_from : ℕ → Savepoint → Bool
is_from date x = nat_le date x.moment

-- the soonest of those that were
abbrev pub soonest : ℕ → List Savepoint → Option Savepoint
soonest date [] = None
soonest date (x ∷ xs) = sooner (then_some (is_from date x) x) (soonest date xs)
