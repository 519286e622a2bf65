use Rattle.std.proofs.Common.{◌∙◌}
use Rattle.wm_rules.proofs.SameNames.{names_told}
use Rattle.wm_cells.specs.Lookups.{referred}
use Rattle.wm_rules.proofs.savepoints.names_differ.Goals as goal

pub returns : goal.returns
returns c = c.in_ok-differs.ensures ∙ names_told (referred c.args.savepoints.now)
