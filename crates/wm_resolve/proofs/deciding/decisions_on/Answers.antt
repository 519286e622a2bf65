use Rattle.wm_decided.specs.Deciding.{decided_on}
use Rattle.wm_pending.specs.Clashes.{conflict_pair}
use Rattle.wm_resolve.proofs.Decided.{decided_all, decided_more}
use Rattle.wm_resolve.proofs.deciding.decisions_on.Goals as goal

pub push_decision-requires-clause-last : goal.push_decision-requires-clause-last
push_decision-requires-clause-last c = c.loop-conflict.invariant.1

pub loop-conflict-preserved : goal.loop-conflict-preserved
loop-conflict-preserved c = (
  λ s tells.
      decided_more (decided_on c.args.deciding.keep s) (conflict_pair c.args.deciding.table.now.number)
      c.args.found.now c.loop-conflict.conflict-index c.conflict-item.result c.loop-conflict.decisions.items c.push_decision.new.decisions.items c.loop-conflict-test.true c.conflict-item.is
      (c.in_ok-push_decision.ensures.made s tells) (c.loop-conflict.invariant.0 s tells),
  c.in_ok-push_decision.ensures.last,
)

pub returns : goal.returns
returns c = λ s tells.
    decided_all (decided_on c.args.deciding.keep s) (conflict_pair c.args.deciding.table.now.number)
    c.args.found.now c.loop-conflict.conflict-index c.loop-conflict.decisions.items c.loop-conflict-test.false (c.loop-conflict.invariant.0 s tells)
