use Rattle.std.proofs.Common.{sym, ◌∙◌, arith}
use Rattle.wm_pending.proofs.Fronting.{none_before}
use Rattle.wm_pending.proofs.front.holds_till.Goals as goal

pub returns-then-lt-clause-steady : goal.returns-then-lt-clause-steady
returns-then-lt-clause-steady c = λ t from till.
    none_before c.args.left.now c.first-item.result t c.in-len1-up.len_at_least c.first-item.is c.requires.ahead.order (omega (arith, till, c.from-then-lt.ensures.value))
    ∙ sym (none_before c.args.left.now c.first-item.result c.args.at c.in-len1-up.len_at_least c.first-item.is c.requires.ahead.order (omega (arith, from, till, c.from-then-lt.ensures.value)))
