use Rattle.wm_lifecycle.proofs.Unlocked.{ascending_differ}
use Rattle.wm_lifecycle.proofs.locks.in_order.Goals as goal

pub returns-clause-differ : goal.returns-clause-differ
returns-clause-differ c = ascending_differ c.args.set.now.keys c.into_iter-id-iterator.ensures.into_iter_gives.4
