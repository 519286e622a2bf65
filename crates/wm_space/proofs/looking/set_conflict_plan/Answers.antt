use Rattle.std.proofs.Common.{[], sym, ap, ◌∙◌}
use Rattle.wm_grammar.specs.declared.procedure.Procedure.TheVariants as procedures
use Rattle.wm_ground.proofs.Bridge.{if_ok}
use Rattle.wm_ground.specs.Grounds.{outline_on}
use Rattle.wm_ground.specs.Outcomes.{outcome_view}
use Rattle.wm_model.specs.Seating.{Stay}
use Rattle.wm_model.specs.Step.{Answer, Outcome, outcome, workspace_given}
use Rattle.wm_outcome.proofs.Going.{looking, looking_from}
use Rattle.wm_outcome.proofs.Told.{misfit_clear, misfit_told}
use Rattle.wm_space.proofs.looking.set_conflict_plan.Goals as goal

pub returns-in-Some : goal.returns-in-Some
returns-in-Some c =
    let o = outline_on c.args.ground in
    let name = workspace_given procedures.SetConflictWorkspace c.args.args.now in
    misfit_told procedures.SetConflictWorkspace c.args.args.now (looking c.args.session.now name o) (outcome_view c.answered.result) c.in-Some.parameter (looking_from c.args.session.now name o) (sym c.in-Some.is ∙ c.in_ok-parameter.ensures)
    (c.answered.ensures ∙ ap (λ (a : Answer). let q : Outcome = record { edits = []; seating = Stay; answer = a } in q) c.mistyped.ensures)

pub returns : goal.returns
returns c =
    let o = outline_on c.args.ground in
    let name = workspace_given procedures.SetConflictWorkspace c.args.args.now in
    if_ok c.look.result _ _
    (λ p is.
    misfit_clear procedures.SetConflictWorkspace c.args.args.now (looking c.args.session.now name o) (outcome_view p) (sym c.in_default.is ∙ c.in_ok-parameter.ensures) (is ∙ ap (λ n. outcome (looking c.args.session.now n o)) c.bytes_given-name.ensures)) c.look.ensures
