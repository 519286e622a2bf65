use Rattle.std.proofs.Common.{◌≡◌, drop, length}
use Rattle.wm_calls.specs.Arguments.{argument_from}
use Rattle.wm_calls.proofs.arguments.argument.Given as goal

abbrev pub invariant-loop-place : goal.invariant-loop-place
invariant-loop-place l = argument_from l.procedure l.parameter (length l.args) 0 l.args ≡ argument_from l.procedure l.parameter (length l.args) l.place (drop l.place l.args)
