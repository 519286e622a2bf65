use Rattle.std.proofs.Common.{ap, ◌∙◌}
use Rattle.std.specs.Option.{option_or}
use Rattle.wm_period.specs.Pieces.{held_at}
use Rattle.wm_version_rows.proofs.laying.lay_version.Goals as goal

pub returns : goal.returns
returns c = λ t less. c.in_ok-both.ensures.cells t ∙ ap (option_or (held_at c.args.upper t)) (c.in_ok-lower.ensures t less)
