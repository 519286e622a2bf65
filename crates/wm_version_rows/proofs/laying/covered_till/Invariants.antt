use Rattle.std.proofs.Common.{◌≡◌, ◌≤◌, ◌<◌, ℕ, true, is_some}
use Rattle.wm_period.specs.Pieces.{held_at}
use Rattle.wm_version_rows.proofs.laying.covered_till.Given as goal

abbrev pub invariant-loop-piece : goal.invariant-loop-piece
invariant-loop-piece l = (t : ℕ) → l.from ≤ t → t < l.reached → is_some (held_at l.pieces t) ≡ true
