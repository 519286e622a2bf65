use Rattle.std.proofs.Common.{◌≡◌, drop}
use Rattle.wm_grammar.specs.Calls.{is_given_from}
use Rattle.wm_call_lines.proofs.parameters.is_given.Given as goal

abbrev pub invariant-loop-place : goal.invariant-loop-place
invariant-loop-place l = is_given_from l.procedure l.parameter 0 l.args ≡ is_given_from l.procedure l.parameter l.place (drop l.place l.args)
