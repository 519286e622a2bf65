use Rattle.wm_period.proofs.JoinLaws.{Joining}
use Rattle.wm_period.proofs.joining.join_to_the_back.Given as goal

abbrev pub invariant-loop-left : goal.invariant-loop-left
invariant-loop-left l = Joining l.initial.list l.list l.left l.kept

abbrev pub decreases-loop-left : goal.decreases-loop-left
decreases-loop-left l = l.left
