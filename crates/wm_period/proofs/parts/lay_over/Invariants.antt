use Rattle.std.proofs.Common.{◌≤◌, length}
use Rattle.wm_period.proofs.Over.{Laying}
use Rattle.wm_period.proofs.parts.lay_over.Given as goal

abbrev pub invariant-loop-piece : goal.invariant-loop-piece
invariant-loop-piece l = Laying l.lower l.upper l.list.items l.piece-index l.rest l.done × (l.rest ≤ length l.lower)
