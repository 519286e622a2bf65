use Rattle.std.proofs.Common.{◌≡◌, drop}
use Rattle.wm_grammar.specs.Calls.{is_closed_from}
use Rattle.wm_call_lines.proofs.parameters.is_closed.Given as goal

abbrev pub invariant-loop-place : goal.invariant-loop-place
invariant-loop-place l = is_closed_from l.procedure 0 l.args ≡ is_closed_from l.procedure l.place (drop l.place l.args)
