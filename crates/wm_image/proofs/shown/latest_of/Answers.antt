use Rattle.std.proofs.Common.{◌∙◌}
use Rattle.wm_image.proofs.Latest.{latest_told}
use Rattle.wm_image.proofs.shown.latest_of.Goals as goal

pub returns : goal.returns
returns c = c.last_in.ensures.last ∙ latest_told c.args.kept.now c.args.index.now c.requires c.args.space c.last_in.ensures.ordered
