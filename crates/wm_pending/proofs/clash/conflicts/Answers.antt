use Rattle.wm_graph.specs.Parts.{parts_of}
use Rattle.wm_telling.specs.Telling.{own_held}
use Rattle.wm_pending.proofs.Conflicting.{conflicts_all, conflicts_more}
use Rattle.wm_pending.proofs.Netted.{held_of}
use Rattle.wm_pending.proofs.clash.conflicts.Goals as goal

pub push_conflicts-requires-clause-order : goal.push_conflicts-requires-clause-order
push_conflicts-requires-clause-order c =
    (held_of (own_held (parts_of c.args.image.now) c.args.space.now) c.args.own.now c.loop-key.key-index c.key-item.result c.loop-key-test.true c.key-item.is c.requires.own.copied.each).lie

pub loop-key-preserved : goal.loop-key-preserved
loop-key-preserved c =
    conflicts_more (parts_of c.args.image.now) c.args.space.now c.args.parent.now c.args.own.now c.loop-key.key-index c.key-item.result c.asked_about-asked.result c.args.table c.loop-key.found.items
    c.push_conflicts.new.found.items c.loop-key-test.true c.key-item.is c.requires.own c.asked_about-asked.ensures c.loop-key.invariant c.in_ok-push_conflicts.ensures

pub returns : goal.returns
returns c =
    conflicts_all (parts_of c.args.image.now) c.args.space.now c.args.parent.now c.args.own.now c.loop-key.key-index c.args.table c.loop-key.found.items c.loop-key-test.false c.requires.own c.loop-key.invariant
