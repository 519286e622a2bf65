use Rattle.wm_net.proofs.RowsListed.{rows_of_key-stretches}
use Rattle.wm_net.proofs.laws.rows_are_stretches_of_stamps.Goals as goal

pub returns : goal.returns
returns c = rows_of_key-stretches
