use Rattle.std.proofs.Common.{ℕ, ◌+◌, ◌*◌, ◌/◌}
use Rattle.std.proofs.lemmas.Bool.{eqb-true}
use Rattle.wm_chunks.proofs.Placing.{within_from}
use Rattle.wm_chunks.proofs.Rising.{stands_from}
use Rattle.wm_chunks.specs.Numbers.{entry_number}
use Rattle.wm_chunks.proofs.chunk.stands_at.Goals as goal

pub returns-then-place-chunk-clause-stands : goal.returns-then-place-chunk-clause-stands
returns-then-place-chunk-clause-stands g c = λ same.
    let low : ℕ = c.args.number / 32 * 32 in
    stands_from entry_number low c.args.chunk.now c.args.number c.args.place c.index-chunk-place.result (within_from low (low + 32) c.args.chunk.now c.requires) c.if-place-chunk.true
    (eqb-true _ c.args.number same)
