use Rattle.wm_net.proofs.Merging.{refresh_law}
use Rattle.wm_net.proofs.laws.a_refresh_keeps_lists_alike.Goals as goal

pub returns : goal.returns
returns c = refresh_law
