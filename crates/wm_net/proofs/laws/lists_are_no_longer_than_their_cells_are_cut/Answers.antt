use Rattle.wm_net.proofs.Measuring.{net_count, gained_count, both_count}
use Rattle.wm_net.proofs.laws.lists_are_no_longer_than_their_cells_are_cut.Goals as goal

pub returns-clause-net : goal.returns-clause-net
returns-clause-net c = net_count

pub returns-clause-gained : goal.returns-clause-gained
returns-clause-gained c = gained_count

pub returns-clause-both : goal.returns-clause-both
returns-clause-both c = both_count
