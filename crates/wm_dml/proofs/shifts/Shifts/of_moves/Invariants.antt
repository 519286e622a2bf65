use Rattle.std.proofs.Common.{◌≡◌, ◌++◌, List, drop}
use Rattle.wm_base.specs.declared.value.Value.{Value}
use Rattle.wm_dml.specs.Moving.{shifts_of, shifts_under}
use Rattle.wm_dml.proofs.shifts.Shifts.of_moves.Given as goal

abbrev pub invariant-loop-one : goal.invariant-loop-one
invariant-loop-one l = (key : List Value) → shifts_of key l.moves ≡ shifts_under l.shifts key ++ shifts_of key (drop l.one-index l.moves)
