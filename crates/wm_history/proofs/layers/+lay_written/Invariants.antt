use Rattle.std.proofs.Common.{length}
use Rattle.wm_history.proofs.layers.+lay_written.Given as goal

abbrev pub decreases-lay_written : goal.decreases-lay_written
decreases-lay_written l = length l.written.now
