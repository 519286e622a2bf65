use Rattle.wm_pending.proofs.Walking.{begins_at}
use Rattle.wm_pending.proofs.walk.Walk.next_contested.Goals as goal

pub returns-clause-some : goal.returns-clause-some
returns-clause-some c = begins_at c.args.self.now c.moved.result c.in_ok-from.from c.in_ok-from.ensures.some c.moved.ensures
