use Rattle.std.proofs.Common.{◌≡◌, drop}
use Rattle.std.specs.List.{find}
use Rattle.wm_model.specs.Step.{holds}
use Rattle.wm_freezing.proofs.hold.first_holding.Given as goal

abbrev pub invariant-loop-session : goal.invariant-loop-session
invariant-loop-session l = find (holds l.space) (drop l.session-index l.sessions) ≡ find (holds l.space) l.sessions
