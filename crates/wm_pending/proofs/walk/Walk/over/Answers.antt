use Rattle.wm_pending.proofs.Fronting.{ahead_start}
use Rattle.wm_pending.proofs.walk.Walk.over.Goals as goal

pub returns-clause-ready : goal.returns-clause-ready
returns-clause-ready c = record {
  contested = ahead_start c.beginning.result c.args.sides.now.contested c.list.result.now c.beginning.ensures c.list.ensures.value c.list.ensures.in_order;
  base = ahead_start c.beginning.result c.args.sides.now.base c.list-2.result.now c.beginning.ensures c.list-2.ensures.value c.list-2.ensures.in_order;
  parent = ahead_start c.beginning.result c.args.sides.now.parent c.list-3.result.now c.beginning.ensures c.list-3.ensures.value c.list-3.ensures.in_order;
  child = ahead_start c.beginning.result c.args.sides.now.child c.list-4.result.now c.beginning.ensures c.list-4.ensures.value c.list-4.ensures.in_order;
}
