use Rattle.std.proofs.Common.{◌≡◌, drop}
use Rattle.wm_grammar.specs.Calls.{is_among}
use Rattle.wm_call_lines.proofs.parameters.is_among.Given as goal

abbrev pub invariant-loop-one : goal.invariant-loop-one
invariant-loop-one l = is_among l.parameters l.parameter ≡ is_among (drop l.one-index l.parameters) l.parameter
