use Rattle.std.proofs.Common.{List, sym, ap, ◌∙◌}
use Rattle.wm_syntax.specs.Views.{filter_view}
use Rattle.wm_listing.specs.declared.columns.Column.{Column}
use Rattle.wm_typing.specs.Types.{mistyped_in_filter}
use Rattle.wm_decided.proofs.KeyColumns.{keys_typed}
use Rattle.wm_decided.proofs.keyed.mistyped_key.Goals as goal

pub returns-clause-typed : goal.returns-clause-typed
returns-clause-typed c = λ unknown none.
    let filter = filter_view c.args.condition.now in
    keys_typed c.args.table.now filter unknown
    (ap (λ (cs : List Column). mistyped_in_filter cs filter) (sym (c.as_slice.ensures ∙ c.in_ok-columns.ensures)) ∙ sym c.mistyped_in_filter.ensures ∙ none)
