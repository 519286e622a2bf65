use Rattle.std.proofs.Common.{option_copied, ap, sym, ◌∙◌}
use Rattle.std.specs.Option.{option_or}
use Rattle.wm_syntax.specs.Views.{cond_view}
use Rattle.wm_typing.specs.Types.{mistyped_in_cond}
use Rattle.wm_typing.proofs.types.+mistyped_in_cond.Goals as goal

pub returns-in-OneOf : goal.returns-in-OneOf
returns-in-OneOf t c =
    c.first_of-in-OneOf.ensures
    ∙ ap (λ wrong. option_or wrong (option_copied c.loop-rest.found)) (c.unless_listed.ensures ∙ sym (ap (λ cond. mistyped_in_cond c.args.columns.now (cond_view cond)) c.in-OneOf.is))
    ∙ c.loop-rest.invariant.same
