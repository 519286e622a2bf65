use Rattle.std.proofs.Common.{ℕ, ◌+◌, ◌*◌, ◌/◌, None, Some, sym, ap, subst, ◌∙◌}
use Rattle.wm_chunks.proofs.Placing.{gone_told, remove_rises, remove_told, value_none, value_standing, within_from}
use Rattle.wm_chunks.specs.Numbers.{Sets, entry_number}
use Rattle.wm_chunks.specs.Rising.{FitsAt, StandsAt}
use Rattle.wm_chunks.proofs.chunk.remove.Goals as goal

pub returns-in-Ok-clause-old : goal.returns-in-Ok-clause-old
returns-in-Ok-clause-old g c =
    sym (value_standing c.args.chunk.now.items c.args.number c.in-Ok.place c.remove.result (subst (λ es. StandsAt entry_number c.args.number es c.in-Ok.place) c.as_slice.ensures.value c.in-Ok.ensures.found)
    ∙ ap (λ e. Some e.1) (sym c.remove.ensures.value))

pub returns-in-Ok-clause-sets : goal.returns-in-Ok-clause-sets
returns-in-Ok-clause-sets g c =
    let low : ℕ = c.args.number / 32 * 32 in
    subst (Sets c.args.number None c.args.chunk.now.items) (sym c.remove.ensures.items)
    (remove_told low c.args.chunk.now.items c.args.number c.in-Ok.place (subst (λ es. StandsAt entry_number c.args.number es c.in-Ok.place) c.as_slice.ensures.value c.in-Ok.ensures.found)
    (within_from low (low + 32) c.args.chunk.now.items c.requires))

pub returns-in-Ok-clause-chunk : goal.returns-in-Ok-clause-chunk
returns-in-Ok-clause-chunk g c =
    let low : ℕ = c.args.number / 32 * 32 in
    rw c.remove.ensures.items
    (remove_rises low (low + 32) c.args.chunk.now.items c.args.number c.in-Ok.place (subst (λ es. StandsAt entry_number c.args.number es c.in-Ok.place) c.as_slice.ensures.value c.in-Ok.ensures.found) c.requires)

pub returns-in-Err-clause-old : goal.returns-in-Err-clause-old
returns-in-Err-clause-old g c =
    let low : ℕ = c.args.number / 32 * 32 in
    sym (value_none low c.args.chunk.now.items c.args.number c.in-Err.field-0 (subst (λ es. FitsAt entry_number c.args.number es c.in-Err.field-0) c.as_slice.ensures.value c.in-Err.ensures.fits)
    (within_from low (low + 32) c.args.chunk.now.items c.requires))

pub returns-in-Err-clause-sets : goal.returns-in-Err-clause-sets
returns-in-Err-clause-sets g c =
    let low : ℕ = c.args.number / 32 * 32 in
    gone_told c.args.chunk.now.items c.args.number (value_none low c.args.chunk.now.items c.args.number c.in-Err.field-0
    (subst (λ es. FitsAt entry_number c.args.number es c.in-Err.field-0) c.as_slice.ensures.value c.in-Err.ensures.fits)
    (within_from low (low + 32) c.args.chunk.now.items c.requires))
