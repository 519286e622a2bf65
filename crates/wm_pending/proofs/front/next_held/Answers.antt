use Rattle.std.proofs.Common.{◌<◌, ◌≤◌, sym, ◌∙◌, arith}
use Rattle.wm_pending.proofs.Fronting.{is_less, next_later, next_now, not_less}
use Rattle.wm_pending.proofs.front.next_held.Goals as goal

pub returns-then-lt-clause-some : goal.returns-then-lt-clause-some
returns-then-lt-clause-some c =
    let lt : c.args.at < c.from.result = is_less c.args.at c.from.result (sym c.lt.ensures ∙ c.if-lt.true) in
    next_later c.args.left.now c.first-item.result c.args.at c.from-then-lt.result c.in-len1-up.len_at_least c.first-item.is c.requires.order c.from.ensures.order (omega (arith, lt, c.from.ensures.value)) c.from-then-lt.ensures.value

pub returns-else-lt-clause-some : goal.returns-else-lt-clause-some
returns-else-lt-clause-some c =
    let begun : c.from.result ≤ c.args.at = not_less c.args.at c.from.result (sym c.lt.ensures ∙ c.if-lt.false) in
    next_now c.args.left.now c.first-item.result c.args.at c.in-len1-up.len_at_least c.first-item.is c.requires (omega (arith, begun, c.from.ensures.value))
