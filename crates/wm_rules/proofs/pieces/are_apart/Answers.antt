use Rattle.std.proofs.Common.{◌∙◌}
use Rattle.wm_rules.proofs.Meeting.{collisions_told}
use Rattle.wm_cells.specs.Lookups.{referred}
use Rattle.wm_rules.proofs.pieces.are_apart.Goals as goal

pub returns : goal.returns
returns c = c.in_ok-apart.ensures ∙ collisions_told (referred c.args.pieces.now)
