use Rattle.std.proofs.Common.{◌≡◌, drop}
use Rattle.std.specs.List.{list_any}
use Rattle.wm_model.specs.Step.{decides_beyond}
use Rattle.wm_space.proofs.dependent.any_decides_beyond.Given as goal

abbrev pub invariant-loop-session : goal.invariant-loop-session
invariant-loop-session l = list_any (decides_beyond l.limit l.space) (drop l.session-index l.sessions) ≡ list_any (decides_beyond l.limit l.space) l.sessions
