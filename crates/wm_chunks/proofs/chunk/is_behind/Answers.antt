use Rattle.std.proofs.Common.{ℕ, ◌+◌, ◌-◌, ◌*◌, ◌/◌, length, subst, ◌<◌, arith}
use Rattle.std.proofs.lemmas.Bool.{ltb-true}
use Rattle.wm_chunks.proofs.Placing.{within_from}
use Rattle.wm_chunks.proofs.Rising.{fits_behind}
use Rattle.wm_chunks.specs.Numbers.{entry_number}
use Rattle.wm_chunks.proofs.chunk.is_behind.Goals as goal

pub returns-in-len1-up : goal.returns-in-len1-up
returns-in-len1-up g c = λ less.
    let low : ℕ = c.args.number / 32 * 32 in
    let some = c.in-len1-up.len_at_least in
    fits_behind entry_number low c.args.chunk.now c.args.number (length c.args.chunk.now - 1) c.last-item.result (within_from low (low + 32) c.args.chunk.now c.requires) (omega (arith, some))
    (subst (λ e. e.0 < c.args.number) c.last-item.is (ltb-true c.last-item.result.0 c.args.number less))
