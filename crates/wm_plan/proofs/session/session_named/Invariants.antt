use Rattle.std.proofs.Common.{◌≡◌, drop}
use Rattle.wm_model.specs.Step.{session_of}
use Rattle.wm_plan.proofs.session.session_named.Given as goal

abbrev pub invariant-loop-session : goal.invariant-loop-session
invariant-loop-session l = session_of l.name (drop l.session-index l.sessions) ≡ session_of l.name l.sessions
