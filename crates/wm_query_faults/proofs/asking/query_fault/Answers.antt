use Rattle.std.proofs.Common.{ap, sym, ◌∙◌}
use Rattle.wm_syntax.specs.Views.{query_view}
use Rattle.wm_query_faults.specs.Asking.{query_fault_in}
use Rattle.wm_query_faults.proofs.Typed.{query_typed, sources_typed}
use Rattle.wm_query_faults.proofs.asking.query_fault.Goals as goal

pub returns-clause-typed : goal.returns-clause-typed
returns-clause-typed c =
    λ none. query_typed c.args.columns.now (query_view c.args.query.now)
    (sym (c.in_ok-refusal.ensures ∙ ap (λ columns. query_fault_in columns (query_view c.args.query.now)) c.as_slice.ensures) ∙ none)

pub returns-clause-sources_typed : goal.returns-clause-sources_typed
returns-clause-sources_typed c =
    λ none. sources_typed c.args.columns.now (query_view c.args.query.now)
    (sym (c.in_ok-refusal.ensures ∙ ap (λ columns. query_fault_in columns (query_view c.args.query.now)) c.as_slice.ensures) ∙ none)
