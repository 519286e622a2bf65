use Rattle.std.proofs.Common.{◌≡◌, length}
use Rattle.wm_state.specs.Listing.{first_shared}
use Rattle.wm_version_rows.specs.Standing.{IsBegun, stretches_from, stretches_on}
use Rattle.wm_version_rows.proofs.overlap.first_shared.Given as goal

abbrev pub invariant-loop-left : goal.invariant-loop-left
invariant-loop-left l = record {
  same : first_shared l.period (stretches_from l.from l.left) ≡ first_shared l.period (stretches_on l.pieces);
  begun : IsBegun l.from l.left;
}

abbrev pub decreases-loop-left : goal.decreases-loop-left
decreases-loop-left l = length l.left
