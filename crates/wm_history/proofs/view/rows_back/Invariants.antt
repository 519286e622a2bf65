use Rattle.std.proofs.Common.{vec_len}
use Rattle.wm_history.proofs.Telling.{GoesOn}
use Rattle.wm_history.proofs.view.rows_back.Given as goal

abbrev pub invariant-loop-id : goal.invariant-loop-id
invariant-loop-id l = GoesOn l.image l.space.name l.table l.fn.ids.items l.left.items l.later.entries l.rows.items

abbrev pub decreases-loop-id : goal.decreases-loop-id
decreases-loop-id l = vec_len l.left
