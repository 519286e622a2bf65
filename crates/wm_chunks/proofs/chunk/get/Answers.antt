use Rattle.std.proofs.Common.{ℕ, ◌+◌, ◌*◌, ◌/◌, sym}
use Rattle.wm_chunks.proofs.Placing.{value_none, value_standing, within_from}
use Rattle.wm_chunks.proofs.chunk.get.Goals as goal

pub returns-in-Ok : goal.returns-in-Ok
returns-in-Ok g c = sym (value_standing c.args.chunk.now c.args.number c.in-Ok.place c.index-chunk-place.result c.in-Ok.ensures.found)

pub returns-in-Err : goal.returns-in-Err
returns-in-Err g c =
    let low : ℕ = c.args.number / 32 * 32 in
    sym (value_none low c.args.chunk.now c.args.number c.in-Err.field-0 c.in-Err.ensures.fits (within_from low (low + 32) c.args.chunk.now c.requires))
