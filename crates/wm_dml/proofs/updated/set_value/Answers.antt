use Rattle.std.proofs.Common.{sym, ap, ◌∙◌}
use Rattle.std.specs.Option.{option_copied, option_map}
use Rattle.std.specs.Str.{bytes_eq}
use Rattle.wm_syntax.specs.Trees.{Set}
use Rattle.wm_syntax.specs.Views.{set_view, sets_view}
use Rattle.wm_spec.specs.Expressions.{has_no_empty_period}
use Rattle.wm_dml.proofs.Picked.{found_passes}
use Rattle.wm_dml.proofs.updated.set_value.Goals as goal

pub becomes-requires : goal.becomes-requires
becomes-requires c =
    found_passes (λ (s : Set). bytes_eq s.name c.args.column.now.name) (λ (s : Set). has_no_empty_period s.becomes) (sets_view c.args.sets.now) (set_view c.in-Some.set.now)
    c.requires (sym c.column_set.ensures ∙ ap (λ o. option_map set_view (option_copied o)) c.in-Some.is)
