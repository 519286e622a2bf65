use Rattle.std.proofs.Common.{◌≡◌, arith}
use Rattle.wm_base.specs.declared.instant.TheConstants.{END}
use Rattle.wm_temporal.specs.Uncovered.{uncovered}
use Rattle.wm_temporal.proofs.UncoveredLaws.{uncovered-more, uncovered-all, uncovered-order, uncovered-cells, uncovered-longest}
use Rattle.wm_temporal.proofs.uncovering.uncovered.Goals as goal

pub loop-old-preserved : goal.loop-old-preserved
loop-old-preserved c = uncovered-more _ _ _ _ _ _ c.loop-old-test.true c.old-item.is c.loop-old.invariant c.in_ok-push_free.ensures

made : (c : goal.After-loop-old) → c.loop-old.list.items ≡ uncovered c.args.olds.now c.args.news.now
made c = uncovered-all _ _ _ _ c.loop-old-test.false c.loop-old.invariant

pub returns-clause-in_order : goal.returns-clause-in_order
returns-clause-in_order c = λ olds news. rw (made c) (uncovered-order 0 END 0 END c.args.olds.now c.args.news.now olds news)

pub returns-clause-cells : goal.returns-clause-cells
returns-clause-cells c = λ news t. rw (made c) (uncovered-cells 0 END c.args.olds.now c.args.news.now t news)

pub returns-clause-longest : goal.returns-clause-longest
returns-clause-longest c = λ olds news. rw (made c) (uncovered-longest 0 END 0 END c.args.olds.now c.args.news.now olds (omega arith) news)
