use Rattle.std.proofs.Common.{◌≡◌, nat_lt, drop}
use Rattle.std.specs.List.{list_any}
use Rattle.wm_state.specs.State.{Decision}
use Rattle.wm_space.proofs.dependent.is_decided_beyond.Given as goal

abbrev pub invariant-loop-decision : goal.invariant-loop-decision
invariant-loop-decision l =
    list_any (λ (d : Decision). nat_lt l.limit d.position) (drop l.decision-index l.decisions) ≡ list_any (λ (d : Decision). nat_lt l.limit d.position) l.decisions
