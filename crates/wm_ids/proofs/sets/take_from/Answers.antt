use Rattle.std.proofs.Common.{◌∙◌}
use Rattle.wm_ids.proofs.TableLists.{taken}
use Rattle.wm_ids.proofs.sets.take_from.Goals as goal

pub returns : goal.returns
returns c = c.remove.ensures.keys ∙ taken c.args.id c.args.ids.now.keys
