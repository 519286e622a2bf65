use Rattle.std.proofs.Common.{◌≡◌, ◌==◌, drop}
use Rattle.std.specs.List.{find}
use Rattle.wm_state.specs.State.{Session}
use Rattle.wm_freezing.proofs.freeze.first_inside.Given as goal

abbrev pub invariant-loop-session : goal.invariant-loop-session
invariant-loop-session l = find (λ (x : Session). x.space == l.space) (drop l.session-index l.sessions) ≡ find (λ (x : Session). x.space == l.space) l.sessions
