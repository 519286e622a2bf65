use Rattle.std.proofs.Common.{List, ℕ, [], Option, Some, unwrap_or, sym, ap, ◌∙◌}
use Rattle.std.proofs.lemmas.Result.{IfOk-weaker}
use Rattle.wm_syntax.specs.Views.{filter_view}
use Rattle.wm_calls.specs.Arguments.{text_given}
use Rattle.wm_calls.specs.Faults.{argument_fault}
use Rattle.wm_grammar.specs.declared.procedure.Parameter.TheVariants as parameters
use Rattle.wm_grammar.specs.declared.procedure.Procedure.TheVariants as procedures
use Rattle.wm_model.specs.Planning.{named}
use Rattle.wm_model.specs.Step.{call_with, fault_around, keep_given, mistyped, resolve_conflicts}
use Rattle.wm_model.proofs.Named.{named_is}
use Rattle.wm_plan.proofs.Planning.{does_one, refused}
use Rattle.wm_reader.specs.Reading.{folded}
use Rattle.wm_resolve.proofs.Calling.{resolve_lacking, resolve_named}
use Rattle.wm_resolve.proofs.calls.resolve_call.Goals as goal

pub returns-in_default-clause-does : goal.returns-in_default-clause-does
returns-in_default-clause-does c = λ xs m.
    refused c.args.image.now xs m c.lacking.result (mistyped (unwrap_or (argument_fault procedures.ResolveConflicts c.args.given.args.now) []))
    (call_with c.args.session.now (Some procedures.ResolveConflicts) c.args.given.args.now (filter_view c.args.given.condition.now) c.args.empty) c.lacking.ensures.edits c.lacking.ensures.seating
    (c.lacking.ensures.answer ∙ ap (λ (fault : Option (List ℕ)). mistyped (unwrap_or fault [])) c.in_ok-fault.ensures) c.requires.rules
    (λ s. resolve_lacking c.args.session.now c.args.given.args.now (filter_view c.args.given.condition.now) c.args.empty s (sym c.in_default.ensures))

pub resolve_over-requires-clause-there : goal.resolve_over-requires-clause-there
resolve_over-requires-clause-there c =
    (named_is c.args.image.now c.in_ok-name.name c.in-Some-table.table.now c.requires.rules (ap (named c.args.image.now) (sym c.as_bytes-2.ensures) ∙ sym c.in-Some-table.ensures)).there

pub returns-clause-does : goal.returns-clause-does
returns-clause-does c =
    IfOk-weaker c.resolve_over.result _ _
    (λ p does xs m.
    does_one c.args.image.now xs m p
    (resolve_conflicts c.args.session.now (unwrap_or (text_given procedures.ResolveConflicts c.args.given.args.now parameters.Workspace) []) c.in_ok-name.name (filter_view c.args.given.condition.now)
    (keep_given c.args.given.args.now) (fault_around procedures.ResolveConflicts c.args.given.args.now) c.args.empty)
    (call_with c.args.session.now (Some procedures.ResolveConflicts) c.args.given.args.now (filter_view c.args.given.condition.now) c.args.empty)
    (λ s st.
    resolve_named c.args.session.now c.args.given.args.now (filter_view c.args.given.condition.now) c.args.empty s c.in-Some.name.now c.in_ok-name.name (sym c.in-Some.ensures) (c.in_ok-name.ensures ∙ ap folded c.as_bytes.ensures))
    (does xs m c.in_ok-name.name (ap (named c.args.image.now) (sym c.as_bytes-2.ensures) ∙ sym c.in-Some-table.ensures)))
    c.resolve_over.ensures.does
