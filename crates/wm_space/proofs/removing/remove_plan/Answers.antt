use Rattle.std.proofs.Common.{ℕ, List, [], None, Some, sym, ap, ◌∙◌}
use Rattle.wm_ground.proofs.Bridge.{if_ok}
use Rattle.wm_ground.specs.Grounds.{outline_on}
use Rattle.wm_ground.specs.Outcomes.{outcome_view}
use Rattle.wm_model.specs.Planning.{Stay}
use Rattle.wm_model.specs.Step.{Answer, Outcome, outcome}
use Rattle.wm_outcome.proofs.Removing.{remove_is, removed}
use Rattle.wm_space.proofs.removing.remove_plan.Goals as goal

pub returns-in-Some : goal.returns-in-Some
returns-in-Some c =
    remove_is c.args.args.now (outline_on c.args.ground) (Some c.in-Some.parameter) (outcome_view c.answered.result) (sym c.in-Some.is ∙ c.in_ok-parameter.ensures)
    (c.answered.ensures ∙ ap (λ (a : Answer). let q : Outcome = record { edits = []; seating = Stay; answer = a } in q) c.mistyped.ensures)

pub returns : goal.returns
returns c =
    if_ok c.remove.result _ _
    (λ p is.
    remove_is c.args.args.now (outline_on c.args.ground) None (outcome_view p) (sym c.in_default.is ∙ c.in_ok-parameter.ensures)
    (is ∙ ap (λ (n : List ℕ). outcome (removed n (outline_on c.args.ground))) c.bytes_given-name.ensures))
    c.remove.ensures
