use Rattle.std.proofs.Common.{length}
use Rattle.wm_plan.proofs.seating.+alter.Given as goal

abbrev pub decreases-alter : goal.decreases-alter
decreases-alter l = length l.sessions.now
