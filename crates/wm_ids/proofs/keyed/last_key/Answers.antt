use Rattle.wm_ids.proofs.Lasts.{last_here, last_before}
use Rattle.wm_ids.proofs.keyed.last_key.Goals as goal

pub returns-then-not-is_empty-clause-last : goal.returns-then-not-is_empty-clause-last
returns-then-not-is_empty-clause-last g c =
    last_here c.args.map.now.entries c.loop-key.entries c.next_back.new.self c.in-Some.key.now c.in-Some.ids.now c.is_empty.result c.is_empty.ensures c.if-not-is_empty.true c.in-Some.ensures.steps c.loop-key.invariant

pub loop-key-preserved : goal.loop-key-preserved
loop-key-preserved g c =
    last_before c.args.map.now.entries c.loop-key.entries c.next_back.new.self c.in-Some.key.now c.in-Some.ids.now c.is_empty.result c.is_empty.ensures c.if-not-is_empty.false c.in-Some.ensures.steps c.loop-key.invariant
