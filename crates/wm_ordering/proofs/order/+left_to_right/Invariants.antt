use Rattle.std.proofs.Common.{length}
use Rattle.wm_ordering.proofs.order.+left_to_right.Given as goal

abbrev pub decreases-left_to_right : goal.decreases-left_to_right
decreases-left_to_right l = length l.one.now
