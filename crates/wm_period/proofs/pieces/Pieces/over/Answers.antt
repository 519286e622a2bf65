use Rattle.std.proofs.Common.{arith}
use Rattle.wm_period.proofs.Over.{Between-over, held_at-over_all}
use Rattle.wm_period.proofs.pieces.Pieces.over.Goals as goal

pub invariant_of-result : goal.invariant_of-result
invariant_of-result c =
    rw (c.in_ok-list.ensures, c.list.ensures.value, c.list-2.ensures.value)
    (Between-over 0 c.args.lower.now c.args.upper.now c.list.ensures.in_order (omega arith) c.list-2.ensures.in_order)

pub returns-clause-cells : goal.returns-clause-cells
returns-clause-cells c =
    λ t. rw (c.in_ok-list.ensures, c.list.ensures.value, c.list-2.ensures.value)
    (held_at-over_all c.args.lower.now c.args.upper.now t c.list.ensures.in_order c.list-2.ensures.in_order)
