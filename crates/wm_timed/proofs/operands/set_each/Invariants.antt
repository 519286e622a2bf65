use Rattle.std.proofs.Common.{◌≡◌, ◌++◌, map, take, drop}
use Rattle.wm_timed.specs.Timed.{timed_const}
use Rattle.wm_timed.proofs.operands.set_each.Given as goal

abbrev pub invariant-loop-constant : goal.invariant-loop-constant
invariant-loop-constant l = take l.constant-index l.constants ++ map (timed_const l.moment) (drop l.constant-index l.constants) ≡ map (timed_const l.moment) l.initial.constants
