use Rattle.std.proofs.Common.{◌≡◌, length, None}
use Rattle.wm_dml.specs.Moving.{earliest, clashes}
use Rattle.wm_dml.proofs.moving.earliest_clash.Given as goal

abbrev pub invariant-loop-left : goal.invariant-loop-left
invariant-loop-left l = earliest None (clashes l.stay l.news) ≡ earliest l.best (clashes l.stay l.left)

abbrev pub decreases-loop-left : goal.decreases-loop-left
decreases-loop-left l = length l.left
