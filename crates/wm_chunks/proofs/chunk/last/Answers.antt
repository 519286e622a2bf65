use Rattle.std.proofs.Common.{◌-◌, length, Some, sym, ap, ◌∙◌, arith}
use Rattle.wm_chunks.proofs.Placing.{last_at}
use Rattle.wm_chunks.proofs.chunk.last.Goals as goal

pub returns-in-len1-up : goal.returns-in-len1-up
returns-in-len1-up g c =
    let some = c.in-len1-up.len_at_least in
    ap (λ e. Some e.0) c.last-item.is ∙ sym (last_at c.args.chunk.now (length c.args.chunk.now - 1) c.last-item.result (omega (arith, some)))
