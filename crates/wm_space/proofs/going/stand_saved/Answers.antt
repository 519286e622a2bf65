use Rattle.std.proofs.Common.{[], Option, sym, ap, ◌∙◌}
use Rattle.wm_ground.specs.Outcomes.{outcome_view}
use Rattle.wm_model.specs.Seating.{Stay}
use Rattle.wm_model.specs.Step.{Answer, Outcome, for_savepoint, no_savepoint, outcome, standing}
use Rattle.wm_outcome.proofs.Told.{told_at_once}
use Rattle.wm_state.specs.Standing.{SavepointFields}
use Rattle.wm_state.specs.State.{At}
use Rattle.wm_space.proofs.going.stand_saved.Goals as goal

pub returns-in_ok-copy_of-in-None : goal.returns-in_ok-copy_of-in-None
returns-in_ok-copy_of-in-None c =
    let name = c.args.name.now in
    told_at_once _ (outcome_view c.answered.result) (c.answered.ensures ∙ ap (λ (a : Answer). let q : Outcome = record { edits = []; seating = Stay; answer = a } in q) (c.no_savepoint.ensures ∙ ap no_savepoint c.in_ok-copy_of-in-None.ensures))
    ∙ sym (ap (λ (y : Option SavepointFields). outcome (for_savepoint (no_savepoint name) (λ (k : SavepointFields). standing c.args.session.now (At k.making)) y)) c.in-None.ensures)
