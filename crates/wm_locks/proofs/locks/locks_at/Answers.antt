use Rattle.std.proofs.Common.{◌∙◌}
use Rattle.wm_locks.proofs.Looking.{at_told}
use Rattle.wm_locks.proofs.locks.locks_at.Goals as goal

pub returns : goal.returns
returns c = c.in_ok-locks.ensures ∙ at_told c.args.image.now c.law_of_order.ensures c.requires.rules c.args.table c.args.key.now c.locks_on.result.now c.locks_on.ensures
