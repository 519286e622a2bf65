use Rattle.std.proofs.Common.{ℕ, List, replicate, ◌-◌, ◌≤◌, ◌++◌, ap, ◌∙◌, arith}
use Rattle.std.proofs.lemmas.List.{take-replicate}
use Rattle.wm_journal.proofs.batch.put_zeros.Goals as goal

pub returns : goal.returns
returns c =
    let room : c.args.count - c.len.result ≤ 4096 = omega (arith, c.len.ensures) in
    c.in_ok-extend_from_slice.ensures.items
    ∙ ap (λ (l : List ℕ). c.args.bytes.now.items ++ l) (take-replicate (c.args.count - c.len.result) 4096 0 room)
    ∙ ap (λ (n : ℕ). c.args.bytes.now.items ++ replicate (c.args.count - n) 0) c.len.ensures
