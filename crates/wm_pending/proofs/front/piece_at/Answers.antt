use Rattle.std.proofs.Common.{◌<◌, sym, ◌∙◌, arith}
use Rattle.wm_pending.proofs.Fronting.{is_less, none_before}
use Rattle.wm_pending.proofs.front.piece_at.Goals as goal

pub returns-then-lt : goal.returns-then-lt
returns-then-lt c =
    let lt : c.args.at < c.from.result = is_less c.args.at c.from.result (sym c.lt.ensures ∙ c.if-lt.true) in
    sym (none_before c.args.left.now c.first-item.result c.args.at c.in-len1-up.len_at_least c.first-item.is c.requires.order (omega (arith, lt, c.from.ensures.value)))
