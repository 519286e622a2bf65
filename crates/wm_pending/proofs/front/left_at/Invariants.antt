use Rattle.std.proofs.Common.{◌≡◌, ℕ, ◌≤◌, length}
use Rattle.wm_base.specs.declared.instant.TheConstants.{END}
use Rattle.wm_period.specs.Pieces.{Between, held_at}
use Rattle.wm_pending.proofs.front.left_at.Given as goal

abbrev pub invariant-loop-left : goal.invariant-loop-left
invariant-loop-left l = record {
  order : Between 0 l.left END;
  same : (t : ℕ) → l.at ≤ t → held_at l.left t ≡ held_at l.pieces t;
}

abbrev pub decreases-loop-left : goal.decreases-loop-left
decreases-loop-left l = length l.left
