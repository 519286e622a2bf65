use Rattle.wm_rows.proofs.Laying.{Laying}
use Rattle.wm_rows.proofs.layer.lay_under.Given as goal

abbrev pub invariant-loop-row : goal.invariant-loop-row
invariant-loop-row l = Laying l.upper.entries l.initial.upper.entries l.lower.entries l.row-iterator
