use Rattle.std.proofs.Common.{◌-◌}
use Rattle.wm_period.proofs.Search.{Looking}
use Rattle.wm_period.proofs.pieces.find.Given as goal

abbrev pub invariant-loop-low : goal.invariant-loop-low
invariant-loop-low l = Looking l.list l.at l.low l.high

abbrev pub decreases-loop-low : goal.decreases-loop-low
decreases-loop-low l = l.high - l.low
