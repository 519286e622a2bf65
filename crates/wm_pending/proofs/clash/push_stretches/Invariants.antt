use Rattle.std.proofs.Common.{◌-◌}
use Rattle.wm_base.specs.declared.instant.TheConstants.{END}
use Rattle.wm_pending.proofs.Conflicting.{Walked}
use Rattle.wm_pending.specs.Lookups.{group_own}
use Rattle.wm_pending.specs.Sides.{contest_at}
use Rattle.wm_pending.proofs.clash.push_stretches.Given as goal

abbrev pub invariant-loop-contest : goal.invariant-loop-contest
invariant-loop-contest l = Walked (contest_at l.sides) (group_own l.own) l.own.table l.fn.found.items l.found.items l.walk

abbrev pub decreases-loop-contest : goal.decreases-loop-contest
decreases-loop-contest l = END - l.walk.at
