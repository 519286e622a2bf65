use Rattle.std.proofs.Common.{ℕ, [], Option, sym, ap, ◌∙◌}
use Rattle.wm_ground.specs.Grounds.{outline_on}
use Rattle.wm_ground.specs.Outcomes.{outcome_view}
use Rattle.wm_model.specs.Seating.{Stay}
use Rattle.wm_model.specs.Step.{Answer, Outcome, for_named, no_workspace, outcome, space_numbered}
use Rattle.wm_outcome.proofs.Going.{standing_in}
use Rattle.wm_outcome.proofs.Told.{told_at_once}
use Rattle.wm_outline.specs.Outline.{SpaceOutline}
use Rattle.wm_space.proofs.going.stand_home.Goals as goal

pub returns-in-None : goal.returns-in-None
returns-in-None c =
    let act = standing_in c.args.session.now c.args.name.now in
    told_at_once _ (outcome_view c.answered.result) (c.answered.ensures ∙ ap (λ (a : Answer). let q : Outcome = record { edits = []; seating = Stay; answer = a } in q) (c.no_workspace.ensures ∙ ap no_workspace (c.from_vec.ensures ∙ c.new.ensures.items)))
    ∙ sym (ap (λ (y : Option SpaceOutline). outcome (for_named (no_workspace []) act y)) c.in-None.ensures)
    ∙ ap (λ (n : ℕ). outcome (for_named (no_workspace []) act (space_numbered n (outline_on c.args.ground)))) c.space.ensures
