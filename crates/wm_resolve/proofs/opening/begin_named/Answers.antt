use Rattle.std.proofs.Common.{[], refl, ap, ◌∙◌}
use Rattle.wm_ground.specs.Grounds.{outline_on}
use Rattle.wm_ground.specs.Outcomes.{outcome_view}
use Rattle.wm_model.specs.Seating.{Stay}
use Rattle.wm_model.specs.Step.{Answer, Outcome, no_workspace, refusal_of, space_named}
use Rattle.wm_outcome.proofs.Named.{homeless, one_fault}
use Rattle.wm_outcome.proofs.Opening.{beginning}
use Rattle.wm_resolve.proofs.opening.begin_named.Goals as goal

pub returns-in_ok-copy_of-in-None : goal.returns-in_ok-copy_of-in-None
returns-in_ok-copy_of-in-None c =
    let name = c.args.name.now in
    let o = outline_on c.args.ground in
    homeless [] (no_workspace name) (beginning c.args.session.now c.args.name.now (outline_on c.args.ground)) (space_named name o) _ (outcome_view c.answered.result) (one_fault (refusal_of (no_workspace name))) refl c.in-None.ensures refl
    (c.answered.ensures ∙ ap (λ (a : Answer). let q : Outcome = record { edits = []; seating = Stay; answer = a } in q) (c.no_workspace.ensures ∙ ap no_workspace c.in_ok-copy_of-in-None.ensures))
