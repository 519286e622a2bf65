use Rattle.std.proofs.Common.{length}
use Rattle.wm_plan.proofs.seating.+thaw.Given as goal

abbrev pub decreases-thaw : goal.decreases-thaw
decreases-thaw l = length l.sessions.now
