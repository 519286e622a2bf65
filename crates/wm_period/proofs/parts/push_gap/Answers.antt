use Rattle.std.proofs.Common.{rules, ◌≤◌, ◌<◌, ◌++◌, length, ap, ◌∙◌, arith}
use Rattle.wm_period.proofs.Over.{EndBy-later, EndBy-more, EndsPast, parts_in-gap}
use Rattle.wm_period.proofs.parts.push_gap.Goals as goal
use Rattle.wm_period.proofs.parts.push_gap.Goals.{then-loop-next-test+else-le, else-loop-next-test}

pub loop-next-init : goal.loop-next-init
loop-next-init c = (omega arith, c.requires.within, EndBy-later _ _ _ c.requires.forward c.requires.passed)

pub loop-next-preserved : goal.loop-next-preserved
loop-next-preserved c =
    let ended : c.index-lower-next.result.period.till ≤ c.args.till = search rules in
    (omega arith, omega arith, EndBy-more _ _ _ _ c.loop-next-test.true c.index-lower-next.is c.loop-next.invariant.2 ended)

pub returns-clause-parts : goal.returns-clause-parts
returns-clause-parts c =
    let past : c.loop-next.next < length c.args.lower.now → EndsPast c.args.till c.args.lower.now c.loop-next.next =
    elim c.loop-next-test.branch [
      | then-loop-next-test+else-le w ↦ λ within. record { piece = w.index-lower-next.result; read = w.index-lower-next.is; past = search rules }
      | else-loop-next-test w ↦ λ within. absurd (omega arith)
    ] in
    c.in_ok-push_parts.ensures
    ∙ ap (λ l. c.args.into.now.items ++ l)
    (parts_in-gap _ _ _ _ _ _ c.requires.in_order c.requires.passed c.loop-next.invariant.0 c.loop-next.invariant.1 c.min-reached.ensures past)
