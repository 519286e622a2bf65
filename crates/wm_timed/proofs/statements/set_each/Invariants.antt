use Rattle.std.proofs.Common.{◌≡◌, ◌++◌, map, take, drop}
use Rattle.wm_timed.specs.Timed.{timed_arg}
use Rattle.wm_timed.proofs.statements.set_each.Given as goal

abbrev pub invariant-loop-arg : goal.invariant-loop-arg
invariant-loop-arg l = take l.arg-index l.args ++ map (timed_arg l.moment) (drop l.arg-index l.args) ≡ map (timed_arg l.moment) l.initial.args
