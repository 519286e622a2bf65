use Rattle.std.proofs.Common.{ℕ, ◌+◌, ◌*◌, ◌/◌, Some, refl, sym, ap, subst, ◌∙◌, arith}
use Rattle.std.proofs.Math.ListN.{set}
use Rattle.wm_chunks.proofs.Placing.{insert_rises, insert_told, set_rises, set_told, value_none, value_standing, within_from}
use Rattle.wm_chunks.proofs.Rising.{key_standing}
use Rattle.wm_chunks.specs.Numbers.{Sets, entry_number}
use Rattle.wm_chunks.specs.Rising.{FitsAt, StandsAt}
use Rattle.wm_chunks.proofs.chunk.insert.Goals as goal

pub returns-in-Ok-clause-old : goal.returns-in-Ok-clause-old
returns-in-Ok-clause-old g c =
    ap Some c.replace.ensures.value
    ∙ sym (value_standing c.args.chunk.now.items c.args.number c.in-Ok.place c.index_mut.result.now (subst (λ es. StandsAt entry_number c.args.number es c.in-Ok.place) c.as_slice.ensures.value c.in-Ok.ensures.found)
    ∙ ap (λ e. Some e.1) (sym c.index_mut.ensures.value))

pub returns-in-Ok-clause-sets : goal.returns-in-Ok-clause-sets
returns-in-Ok-clause-sets g c =
    let stands : StandsAt entry_number c.args.number c.args.chunk.now.items c.in-Ok.place = subst (λ es. StandsAt entry_number c.args.number es c.in-Ok.place) c.as_slice.ensures.value c.in-Ok.ensures.found in
    subst (λ v. Sets c.args.number (Some v) c.args.chunk.now.items (set c.args.chunk.now.items c.in-Ok.place (c.index_mut.result.now.0, c.replace.new.dest))) c.replace.ensures.after
    (set_told c.args.chunk.now.items c.args.number c.in-Ok.place (c.index_mut.result.now.0, c.replace.new.dest) stands
    (ap (λ e. e.0) c.index_mut.ensures.value ∙ key_standing entry_number c.args.chunk.now.items c.args.number c.in-Ok.place c.index_mut.result.now stands))

pub returns-in-Ok-clause-chunk : goal.returns-in-Ok-clause-chunk
returns-in-Ok-clause-chunk g c =
    let low : ℕ = c.args.number / 32 * 32 in
    let stands : StandsAt entry_number c.args.number c.args.chunk.now.items c.in-Ok.place = subst (λ es. StandsAt entry_number c.args.number es c.in-Ok.place) c.as_slice.ensures.value c.in-Ok.ensures.found in
    set_rises low (low + 32) c.args.chunk.now.items c.args.number c.in-Ok.place (c.index_mut.result.now.0, c.replace.new.dest) stands
    (ap (λ e. e.0) c.index_mut.ensures.value ∙ key_standing entry_number c.args.chunk.now.items c.args.number c.in-Ok.place c.index_mut.result.now stands) c.requires

pub returns-in_ok-insert-in-Err-clause-old : goal.returns-in_ok-insert-in-Err-clause-old
returns-in_ok-insert-in-Err-clause-old g c =
    let low : ℕ = c.args.number / 32 * 32 in
    sym (value_none low c.args.chunk.now.items c.args.number c.in-Err.place (subst (λ es. FitsAt entry_number c.args.number es c.in-Err.place) c.as_slice.ensures.value c.in-Err.ensures.fits)
    (within_from low (low + 32) c.args.chunk.now.items c.requires))

pub returns-in_ok-insert-in-Err-clause-sets : goal.returns-in_ok-insert-in-Err-clause-sets
returns-in_ok-insert-in-Err-clause-sets g c =
    subst (Sets c.args.number (Some c.args.value) c.args.chunk.now.items) (sym c.in_ok-insert-in-Err.ensures.items)
    (insert_told c.args.chunk.now.items c.args.number c.in-Err.place (c.args.number, c.args.value) (subst (λ es. FitsAt entry_number c.args.number es c.in-Err.place) c.as_slice.ensures.value c.in-Err.ensures.fits) refl)

pub returns-in_ok-insert-in-Err-clause-chunk : goal.returns-in_ok-insert-in-Err-clause-chunk
returns-in_ok-insert-in-Err-clause-chunk g c =
    let n : ℕ = c.args.number in
    let low : ℕ = n / 32 * 32 in
    rw c.in_ok-insert-in-Err.ensures.items
    (insert_rises low (low + 32) c.args.chunk.now.items n c.in-Err.place (n, c.args.value) (subst (λ es. FitsAt entry_number n es c.in-Err.place) c.as_slice.ensures.value c.in-Err.ensures.fits) refl
    (omega arith) (omega arith) c.requires)
