use Rattle.std.proofs.Common.{◌∙◌}
use Rattle.wm_rules.proofs.Meeting.{meetings_told}
use Rattle.wm_cells.specs.Lookups.{referred}
use Rattle.wm_rules.proofs.traces.are_apart.Goals as goal

pub returns : goal.returns
returns c = c.in_ok-apart.ensures ∙ meetings_told (referred c.args.traces.now)
