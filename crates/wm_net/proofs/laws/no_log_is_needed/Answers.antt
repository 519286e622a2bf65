use Rattle.wm_net.proofs.Merging.{told_pending, told_own}
use Rattle.wm_net.proofs.laws.no_log_is_needed.Goals as goal

pub returns-clause-pending : goal.returns-clause-pending
returns-clause-pending c = told_pending

pub returns-clause-own : goal.returns-clause-own
returns-clause-own c = told_own
