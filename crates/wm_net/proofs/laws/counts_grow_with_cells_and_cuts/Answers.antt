use Rattle.wm_net.proofs.Counting.{count_tests, count_either}
use Rattle.wm_net.proofs.Cutting.{count_cuts}
use Rattle.wm_net.proofs.laws.counts_grow_with_cells_and_cuts.Goals as goal

pub returns-clause-cuts : goal.returns-clause-cuts
returns-clause-cuts c = count_cuts

pub returns-clause-cells : goal.returns-clause-cells
returns-clause-cells c = count_tests

pub returns-clause-apart : goal.returns-clause-apart
returns-clause-apart c = count_either
