use Rattle.std.proofs.Common.{Some, sym, ap, ◌∙◌}
use Rattle.wm_grammar.specs.declared.procedure.Procedure.TheVariants as procedures
use Rattle.wm_model.specs.Step.{call, commit_resolve, mistyped}
use Rattle.wm_plan.proofs.Planning.{refused}
use Rattle.wm_plan.specs.Views.{answer_view}
use Rattle.wm_resolve.proofs.Calling.{commit_done, commit_mistyped}
use Rattle.wm_resolve.proofs.Plans.{opens_same}
use Rattle.wm_resolve.proofs.calls.commit_call.Goals as goal

pub returns-in-Some-clause-does : goal.returns-in-Some-clause-does
returns-in-Some-clause-does c = λ xs among.
    refused c.args.image.now xs c.args.moment c.answered.result (mistyped c.in-Some.parameter) (call c.args.session.now (Some procedures.CommitResolve) c.args.args.now) c.answered.ensures.edits c.answered.ensures.seating
    (ap answer_view c.answered.ensures.answer ∙ c.mistyped.ensures) c.requires.rules
    (λ s. commit_mistyped c.args.session.now c.args.args.now s c.in-Some.parameter (sym c.in_ok-parameter.ensures ∙ c.in-Some.is))

pub returns-clause-does : goal.returns-clause-does
returns-clause-does c =
    opens_same c.args.image.now c.args.moment c.args.session.now c.commit_resolve.result (commit_resolve c.args.session.now c.bytes_given-workspace.result.now) (call c.args.session.now (Some procedures.CommitResolve) c.args.args.now)
    (λ s. commit_done c.args.session.now c.args.args.now s c.bytes_given-workspace.result.now (sym c.in_ok-parameter.ensures ∙ c.in_default.is) c.bytes_given-workspace.ensures) c.commit_resolve.ensures.does
