use Rattle.std.proofs.Common.{[], sym, ap, ◌∙◌}
use Rattle.wm_grammar.specs.declared.procedure.Procedure.TheVariants as procedures
use Rattle.wm_ground.proofs.Bridge.{if_ok}
use Rattle.wm_ground.specs.Grounds.{outline_on}
use Rattle.wm_ground.specs.Outcomes.{outcome_view}
use Rattle.wm_model.specs.Seating.{Stay}
use Rattle.wm_model.specs.Step.{Answer, Outcome, outcome, workspace_given}
use Rattle.wm_outcome.proofs.Opening.{closing_named, rollback_resolve_from}
use Rattle.wm_outcome.proofs.Told.{misfit_clear, misfit_told}
use Rattle.wm_resolve.proofs.opening.rollback_resolve_plan.Goals as goal

pub returns-in-Some : goal.returns-in-Some
returns-in-Some c =
    let o = outline_on c.args.ground in
    let name = workspace_given procedures.RollbackResolve c.args.args.now in
    misfit_told procedures.RollbackResolve c.args.args.now (closing_named c.args.session.now name o) (outcome_view c.answered.result) c.in-Some.parameter (rollback_resolve_from c.args.session.now name o) (sym c.in-Some.is ∙ c.in_ok-parameter.ensures)
    (c.answered.ensures ∙ ap (λ (a : Answer). let q : Outcome = record { edits = []; seating = Stay; answer = a } in q) c.mistyped.ensures)

pub returns : goal.returns
returns c =
    let o = outline_on c.args.ground in
    let name = workspace_given procedures.RollbackResolve c.args.args.now in
    if_ok c.close_named.result _ _
    (λ p is.
    misfit_clear procedures.RollbackResolve c.args.args.now (closing_named c.args.session.now name o) (outcome_view p) (sym c.in_default.is ∙ c.in_ok-parameter.ensures) (is ∙ ap (λ n. outcome (closing_named c.args.session.now n o)) c.bytes_given-name.ensures))
    c.close_named.ensures
