use Rattle.std.proofs.Common.{◌-◌}
use Rattle.wm_base.specs.declared.instant.TheConstants.{END}
use Rattle.wm_pending.proofs.Walking.{Reaches}
use Rattle.wm_pending.proofs.walk.Walk.next_contest.Given as goal

abbrev pub invariant-loop-end : goal.invariant-loop-end
invariant-loop-end l = Reaches l.start l.end

abbrev pub decreases-loop-end : goal.decreases-loop-end
decreases-loop-end l = END - l.end.at
