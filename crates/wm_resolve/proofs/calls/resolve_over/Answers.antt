use Rattle.std.proofs.Common.{[], unwrap_or, false, sym, ap, ◌∙◌}
use Rattle.std.proofs.lemmas.Result.{IfOk-weaker}
use Rattle.std.specs.Option.{option_copied}
use Rattle.wm_syntax.specs.Views.{filter_view}
use Rattle.wm_calls.specs.Arguments.{text_given}
use Rattle.wm_grammar.specs.declared.procedure.Parameter.TheVariants as parameters
use Rattle.wm_grammar.specs.declared.procedure.Procedure.TheVariants as procedures
use Rattle.wm_model.specs.Planning.{Stay}
use Rattle.wm_model.specs.Step.{fault_around, keep_given, resolve_conflicts, versioning}
use Rattle.wm_plan.proofs.Planning.{does_one, told}
use Rattle.wm_plan.specs.Views.{answer_view, seating_view}
use Rattle.wm_resolve.proofs.Calling.{inside_none, name_found, resolve_right, resolve_unready}
use Rattle.wm_resolve.specs.Deciding.{resolve_to}
use Rattle.wm_resolve.proofs.calls.resolve_over.Goals as goal

pub returns-then-not-table-clause-does : goal.returns-then-not-table-clause-does
returns-then-not-table-clause-does c = λ xs m name is.
    told c.args.image.now xs m c.answered.result [] Stay (versioning name false)
    (resolve_conflicts c.args.session.now (unwrap_or (text_given procedures.ResolveConflicts c.args.given.args.now parameters.Workspace) []) name (filter_view c.args.given.condition.now) (keep_given c.args.given.args.now)
    (fault_around procedures.ResolveConflicts c.args.given.args.now) c.args.empty)
    c.answered.ensures.edits (ap seating_view c.answered.ensures.seating)
    (ap answer_view c.answered.ensures.answer ∙ c.versioning.ensures ∙ ap (λ n. versioning n false) (c.in_ok-name.ensures ∙ name_found c.args.image.now name c.args.table.now is))
    (resolve_unready c.args.image.now xs m c.args.session.now (unwrap_or (text_given procedures.ResolveConflicts c.args.given.args.now parameters.Workspace) []) name (filter_view c.args.given.condition.now)
    (keep_given c.args.given.args.now) (fault_around procedures.ResolveConflicts c.args.given.args.now) c.args.empty c.args.table.now is c.if-not-table.true)

pub resolve_in-requires-clause-typed : goal.resolve_in-requires-clause-typed
resolve_in-requires-clause-typed c =
    c.in_ok-mark.ensures.typed (sym c.in_ok-name-2.ensures ∙ c.in_default.is)
    (inside_none procedures.ResolveConflicts c.args.given.args.now (option_copied c.in_ok-mark.mark) (sym c.in_ok-parameter.ensures ∙ c.in_default-2.is))

pub returns-clause-does : goal.returns-clause-does
returns-clause-does c =
    IfOk-weaker c.resolve_in.result _ _
    (λ p does xs m name is.
    does_one c.args.image.now xs m p (resolve_to c.args.session.now c.bytes_given-workspace.result.now c.args.table.now (filter_view c.args.given.condition.now) c.keep_given.result c.args.empty)
    (resolve_conflicts c.args.session.now (unwrap_or (text_given procedures.ResolveConflicts c.args.given.args.now parameters.Workspace) []) name (filter_view c.args.given.condition.now) (keep_given c.args.given.args.now)
    (fault_around procedures.ResolveConflicts c.args.given.args.now) c.args.empty)
    (λ s st.
    resolve_right c.args.image.now xs m c.args.session.now (unwrap_or (text_given procedures.ResolveConflicts c.args.given.args.now parameters.Workspace) []) name (filter_view c.args.given.condition.now) (keep_given c.args.given.args.now)
    (fault_around procedures.ResolveConflicts c.args.given.args.now) c.args.empty c.args.table.now is c.if-not-table.false s st (sym c.in_ok-name-2.ensures ∙ c.in_default.is)
    (ap (fault_around procedures.ResolveConflicts c.args.given.args.now) (sym c.in_ok-mark.ensures.exact) ∙ sym c.in_ok-parameter.ensures ∙ c.in_default-2.is)
    ∙ (λ i. resolve_to c.args.session.now (sym c.bytes_given-workspace.ensures i) c.args.table.now (filter_view c.args.given.condition.now) (sym c.keep_given.ensures i) c.args.empty s))
    (does xs m))
    c.resolve_in.ensures.does
