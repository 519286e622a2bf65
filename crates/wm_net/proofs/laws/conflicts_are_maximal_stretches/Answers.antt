use Rattle.wm_net.proofs.Conflicting.{conflicts_are, conflicts_is}
use Rattle.wm_net.proofs.Tabled.{conflicts_in_is, first_of_table}
use Rattle.wm_net.proofs.laws.conflicts_are_maximal_stretches.Goals as goal

pub returns-clause-are : goal.returns-clause-are
returns-clause-are c = conflicts_are

pub returns-clause-only : goal.returns-clause-only
returns-clause-only c = conflicts_is

pub returns-clause-table : goal.returns-clause-table
returns-clause-table c = conflicts_in_is

pub returns-clause-first : goal.returns-clause-first
returns-clause-first c = first_of_table
