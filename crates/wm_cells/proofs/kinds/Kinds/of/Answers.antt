use Rattle.std.proofs.Common.{arith}
use Rattle.wm_cells.proofs.Collecting.{collected_more, collected_all}
use Rattle.wm_cells.proofs.kinds.Kinds.of.Goals as goal

pub loop-stored-preserved : goal.loop-stored-preserved
loop-stored-preserved c = collected_more c.args.records.now c.loop-stored.stored-index c.stored-item.result _ _ c.loop-stored-test.true c.stored-item.is c.loop-stored.invariant c.in_ok-add.ensures

pub returns : goal.returns
returns c = collected_all c.args.records.now c.loop-stored.stored-index _ (omega arith) c.loop-stored.invariant
