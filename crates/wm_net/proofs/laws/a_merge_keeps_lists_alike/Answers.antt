use Rattle.wm_net.proofs.Merging.{merge_law}
use Rattle.wm_net.proofs.laws.a_merge_keeps_lists_alike.Goals as goal

pub returns : goal.returns
returns c = merge_law
