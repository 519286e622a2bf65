use Rattle.std.proofs.Common.{◌≡◌, drop}
use Rattle.std.specs.Prelude.{is_none}
use Rattle.std.specs.List.{find}
use Rattle.wm_calls.specs.Arguments.{argument}
use Rattle.wm_calls.proofs.faults.missing.Given as goal

abbrev pub invariant-loop-parameter : goal.invariant-loop-parameter
invariant-loop-parameter l = find (λ p. is_none (argument l.procedure l.args p)) l.required ≡ find (λ p. is_none (argument l.procedure l.args p)) (drop l.parameter-index l.required)
