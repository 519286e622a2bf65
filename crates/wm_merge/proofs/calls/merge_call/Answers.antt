use Rattle.std.proofs.Common.{Some, sym, ap, ◌∙◌, ℕ, List, IfOk, subst}
use Rattle.wm_grammar.specs.declared.procedure.Procedure.TheVariants as procedures
use Rattle.wm_model.specs.Step.{call, merge_workspace, mistyped, Asked}
use Rattle.wm_plan.proofs.Planning.{does_here, refused}
use Rattle.wm_plan.specs.Views.{answer_view}
use Rattle.wm_merge.specs.Views.{asked_view}
use Rattle.wm_merge.proofs.Calling.{merge_done, merge_mistyped}
use Rattle.wm_spending.specs.Nets.{AreNets, Nothing, merge_of}
use Rattle.wm_merge.proofs.calls.merge_call.Goals as goal

pub returns-in-Some-clause-does : goal.returns-in-Some-clause-does
returns-in-Some-clause-does c =
    refused c.args.image.now c.args.sessions.now c.args.moment c.answered.result (mistyped c.in-Some.parameter) (call c.args.session.now (Some procedures.MergeWorkspace) c.args.args.now) c.answered.ensures.edits c.answered.ensures.seating
    (ap answer_view c.answered.ensures.answer ∙ c.mistyped.ensures) c.requires.rules
    (λ s. merge_mistyped c.args.session.now c.args.args.now s c.in-Some.parameter (sym c.in_ok-parameter.ensures ∙ c.in-Some.is))

pub returns-clause-does : goal.returns-clause-does
returns-clause-does c =
    does_here c.args.image.now c.args.sessions.now c.args.moment c.merge_workspace.result (merge_workspace c.args.session.now (asked_view c.merge_asked-asked.result) c.bytes_given-workspace.result.now)
    (call c.args.session.now (Some procedures.MergeWorkspace) c.args.args.now)
    (λ s. merge_done c.args.session.now c.args.args.now s (asked_view c.merge_asked-asked.result) c.bytes_given-workspace.result.now (sym c.in_ok-parameter.ensures ∙ c.in_default.is) c.merge_asked-asked.ensures
    c.bytes_given-workspace.ensures)
    c.merge_workspace.ensures.does

-- ---- its edits

pub returns-in-Some-clause-nets : goal.returns-in-Some-clause-nets
returns-in-Some-clause-nets c = λ stays. Nothing c.answered.ensures.edits

pub returns-clause-nets : goal.returns-clause-nets
returns-clause-nets c = λ stays.
    subst (λ (w : List ℕ). IfOk c.merge_workspace.result (λ p. AreNets c.args.image.now (merge_of w) p.edits.items)) c.bytes_given-workspace.ensures
    (c.merge_workspace.ensures.nets (ap (λ (a : Asked). a.removes) c.merge_asked-asked.ensures ∙ stays))
