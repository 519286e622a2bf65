use Rattle.std.proofs.Common.{◌-◌}
use Rattle.wm_tree.proofs.Placing.{Halving}
use Rattle.wm_tree.proofs.place.place_of.Given as goal

abbrev pub invariant-loop-low : goal.invariant-loop-low
invariant-loop-low l = Halving l.versions l.number l.low l.high

abbrev pub decreases-loop-low : goal.decreases-loop-low
decreases-loop-low l = l.high - l.low
