use Rattle.std.proofs.Common.{[], refl, ap, ◌∙◌}
use Rattle.wm_ground.specs.Grounds.{outline_on}
use Rattle.wm_ground.specs.Outcomes.{outcome_view}
use Rattle.wm_model.specs.Seating.{Stay}
use Rattle.wm_model.specs.Step.{Answer, Outcome, no_workspace, refusal_of, saving, space_named}
use Rattle.wm_outcome.proofs.Named.{homeless, one_fault}
use Rattle.wm_space.proofs.saving.save_named.Goals as goal

pub returns-in_ok-copy_of-in-None : goal.returns-in_ok-copy_of-in-None
returns-in_ok-copy_of-in-None c =
    let workspace = c.args.workspace.now in
    let o = outline_on c.args.ground in
    homeless [] (no_workspace workspace) (saving c.args.name.now o) (space_named workspace o) _ (outcome_view c.answered.result) (one_fault (refusal_of (no_workspace workspace))) refl c.in-None.ensures refl
    (c.answered.ensures ∙ ap (λ (a : Answer). let q : Outcome = record { edits = []; seating = Stay; answer = a } in q) (c.no_workspace.ensures ∙ ap no_workspace c.in_ok-copy_of-in-None.ensures))
