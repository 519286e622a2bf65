use Rattle.std.proofs.Common.{◌-◌}
use Rattle.wm_base.specs.declared.instant.TheConstants.{END}
use Rattle.wm_graph.specs.Parts.{parts_of}
use Rattle.wm_pending.specs.Sides.{contest_at}
use Rattle.wm_differences.proofs.Comparing.{Walked}
use Rattle.wm_differences.proofs.shown.push_stretches.Given as goal

abbrev pub invariant-loop-contest : goal.invariant-loop-contest
invariant-loop-contest l = Walked (parts_of l.image) l.asked.first.now l.asked.second.now l.asked.table.now l.key (contest_at l.sides) l.fn.rows l.rows l.walk

abbrev pub decreases-loop-contest : goal.decreases-loop-contest
decreases-loop-contest l = END - l.walk.at
