use Rattle.std.proofs.Common.{[], sym, ap, ◌∙◌}
use Rattle.wm_freezing.proofs.Thawing.{thaw_clear, thaw_told}
use Rattle.wm_freezing.proofs.unfreeze.unfreeze_plan.Goals as goal
use Rattle.wm_ground.proofs.Bridge.{if_ok}
use Rattle.wm_ground.specs.Grounds.{outline_on}
use Rattle.wm_ground.specs.Outcomes.{outcome_view}
use Rattle.wm_model.specs.Seating.{Stay}
use Rattle.wm_model.specs.Step.{Answer, Outcome}

pub returns-in-Some : goal.returns-in-Some
returns-in-Some c =
    thaw_told c.args.args.now (outline_on c.args.ground) (outcome_view c.answered.result) c.in-Some.parameter (sym c.in-Some.is ∙ c.in_ok-parameter.ensures)
    (c.answered.ensures ∙ ap (λ (a : Answer). let q : Outcome = record { edits = []; seating = Stay; answer = a } in q) c.mistyped.ensures)

pub returns : goal.returns
returns c =
    if_ok c.unfreeze_named.result _ _
    (λ p is. thaw_clear c.args.args.now (outline_on c.args.ground) (outcome_view p) c.bytes_given-name.result.now c.bytes_given-name.ensures (sym c.in_default.is ∙ c.in_ok-parameter.ensures) is) c.unfreeze_named.ensures
