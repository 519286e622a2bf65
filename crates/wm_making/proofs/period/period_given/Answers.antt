use Rattle.std.proofs.Common.{sym, ap, ◌∙◌}
use Rattle.std.specs.Option.{option_copied, option_map}
use Rattle.wm_syntax.specs.Views.{expr_view, exprs_view}
use Rattle.wm_spec.specs.Expressions.{has_no_empty_period}
use Rattle.wm_making.proofs.Placed.{value_passes}
use Rattle.wm_making.proofs.period.period_given.Goals as goal

pub written_period-requires : goal.written_period-requires
written_period-requires c =
    value_passes has_no_empty_period c.args.table.now c.args.names.now 0 (exprs_view c.args.values.now) (expr_view c.in-Some.value.now) c.requires
    (sym c.value_for_period.ensures ∙ ap (λ o. option_map expr_view (option_copied o)) c.in-Some.is)
