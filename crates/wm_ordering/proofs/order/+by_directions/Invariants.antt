use Rattle.std.proofs.Common.{length}
use Rattle.wm_ordering.proofs.order.+by_directions.Given as goal

abbrev pub decreases-by_directions : goal.decreases-by_directions
decreases-by_directions l = length l.directions.now
