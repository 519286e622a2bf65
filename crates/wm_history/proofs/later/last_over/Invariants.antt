use Rattle.std.proofs.Common.{◌≡◌, length}
use Rattle.wm_history.specs.Later.{last_over}
use Rattle.wm_history.proofs.later.last_over.Given as goal

abbrev pub invariant-loop-last : goal.invariant-loop-last
invariant-loop-last l = last_over l.cells.from l.cells.till l.left ≡ last_over l.cells.from l.cells.till l.written

abbrev pub decreases-loop-last : goal.decreases-loop-last
decreases-loop-last l = length l.left
