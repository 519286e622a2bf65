use Rattle.std.proofs.Common.{◌≡◌, drop}
use Rattle.std.specs.List.{find}
use Rattle.wm_model.specs.Step.{resolves}
use Rattle.wm_plan.proofs.resolving.first_resolving.Given as goal

abbrev pub invariant-loop-session : goal.invariant-loop-session
invariant-loop-session l = find (resolves l.space) (drop l.session-index l.sessions) ≡ find (resolves l.space) l.sessions
