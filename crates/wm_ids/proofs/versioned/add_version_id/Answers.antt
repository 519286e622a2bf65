use Rattle.std.proofs.Common.{◌<◌, ◌≤◌, ◌+◌, List, length, drop, take, ap, sym, subst, ◌∙◌}
use Rattle.std.proofs.Math.ListN.{set}
use Rattle.std.specs.List.{AllByRecursion}
use Rattle.std.specs.List.Sorted.{IsStrictlySortedBy}
use Rattle.std.specs.Ordering.{nat_cmp}
use Rattle.wm_ids.proofs.Placing.{stands_under}
use Rattle.wm_ids.proofs.Versioning.{more_put, more_there}
use Rattle.wm_ids.proofs.Widening.{drop_widens, put_before, set_widens, written}
use Rattle.wm_chunks.specs.Rising.{FitsAt, StandsAt}
use Rattle.wm_ids.specs.Versioned.{HasMore, IsWithin, Widens, entry_version, widened_from}
use Rattle.wm_ids.specs.declared.versioned.Versioned.{Versioned}
use Rattle.wm_spec.specs.declared.record.piece.PieceRecord.{PieceRecord}
use Rattle.wm_ids.proofs.versioned.add_version_id.Goals as goal

pub add_own-requires : goal.add_own-requires
add_own-requires c =
    subst (IsStrictlySortedBy nat_cmp)
    (stands_under c.args.versions.now.items c.args.piece.now.version c.in-Ok.place c.index_mut.result.now (subst (λ (es : List Versioned). StandsAt entry_version c.args.piece.now.version es c.in-Ok.place) c.as_slice.ensures.value c.in-Ok.ensures.found)
    ∙ ap (λ (e : Versioned). e.ids) (sym c.index_mut.ensures.value))
    c.requires.ascend

pub widen_from-requires : goal.widen_from-requires
widen_from-requires c =
    let es : List Versioned = c.args.versions.now.items in
    let one : Versioned = c.add_own.new.one in
    subst (λ (fs : List Versioned). Widens (drop c.in-Ok.place fs)) (sym c.as_mut_slice.ensures.value)
    (drop_widens c.in-Ok.place (set es c.in-Ok.place one)
    (set_widens es c.in-Ok.place c.index_mut.result.now one (c.in_ok-add_own-in-Ok.ensures.from ∙ ap (λ (e : Versioned). e.from) c.index_mut.ensures.value)
    (c.in_ok-add_own-in-Ok.ensures.till ∙ ap (λ (e : Versioned). e.till) c.index_mut.ensures.value) c.requires.nested.widens))

pub widen_from-requires-in-Err : goal.widen_from-requires-in-Err
widen_from-requires-in-Err c =
    let es : List Versioned = c.args.versions.now.items in
    subst (λ (fs : List Versioned). Widens (drop (c.in-Err.place + 1) fs)) (sym (c.as_mut_slice-in-Err.ensures.value ∙ c.in_ok-insert-in-Err.ensures.items))
    (put_before es c.in-Err.place c.with_one-one.result (subst (λ (fs : List Versioned). c.in-Err.place ≤ length fs) c.as_slice.ensures.value c.in-Err.ensures.between) c.requires.nested.widens)

pub returns-in_ok-add_own-in-Ok : goal.returns-in_ok-add_own-in-Ok
returns-in_ok-add_own-in-Ok c =
    let es : List Versioned = c.args.versions.now.items in
    let x : PieceRecord = c.args.piece.now in
    subst (HasMore c.args.id x es)
    (sym
    (written c.args.versions.now.len c.widen_from.new.versions c.as_mut_slice.result.now (set es c.in-Ok.place c.add_own.new.one) c.as_mut_slice.ensures.value c.as_mut_slice.ensures.len c.widen_from.auto.versions
    ∙ c.widen_from.ensures ∙ ap (widened_from x c.in-Ok.place) c.as_mut_slice.ensures.value))
    (more_there es c.in-Ok.place c.args.id x c.index_mut.result.now c.add_own.new.one c.requires.nested
    (subst (λ (fs : List Versioned). StandsAt entry_version x.version fs c.in-Ok.place) c.as_slice.ensures.value c.in-Ok.ensures.found)
    (subst (λ (fs : List Versioned). c.in-Ok.place < length fs) c.as_slice.ensures.value c.in-Ok.ensures.within) c.index_mut.ensures.value c.in_ok-add_own-in-Ok.ensures.version c.in_ok-add_own-in-Ok.ensures.from
    c.in_ok-add_own-in-Ok.ensures.till c.in_ok-add_own-in-Ok.ensures.ids)

pub returns-in_ok-insert-in-Err : goal.returns-in_ok-insert-in-Err
returns-in_ok-insert-in-Err c =
    let es : List Versioned = c.args.versions.now.items in
    let x : PieceRecord = c.args.piece.now in
    subst (HasMore c.args.id x es)
    (sym
    (written c.insert.new.self.len c.widen_from-in-Err.new.versions c.as_mut_slice-in-Err.result.now c.insert.new.self.items c.as_mut_slice-in-Err.ensures.value c.as_mut_slice-in-Err.ensures.len c.widen_from-in-Err.auto.versions
    ∙ c.widen_from-in-Err.ensures ∙ ap (widened_from x (c.in-Err.place + 1)) (c.as_mut_slice-in-Err.ensures.value ∙ c.in_ok-insert-in-Err.ensures.items)))
    (more_put es c.in-Err.place c.args.id x c.with_one-one.result c.span_at-span.result.0 c.span_at-span.result.1 c.requires.nested
    (subst (λ (fs : List Versioned). FitsAt entry_version x.version fs c.in-Err.place) c.as_slice.ensures.value c.in-Err.ensures.fits)
    (subst (λ (fs : List Versioned). c.in-Err.place ≤ length fs) c.as_slice.ensures.value c.in-Err.ensures.between) c.with_one-one.ensures.version c.with_one-one.ensures.from c.with_one-one.ensures.till
    c.with_one-one.ensures.ids c.span_at-span.ensures.from c.span_at-span.ensures.till
    (subst (λ (fs : List Versioned). AllByRecursion (λ (e : Versioned). (c.span_at-span.result.0 ≤ e.from) × (e.till ≤ c.span_at-span.result.1)) (take c.in-Err.place fs)) c.as_slice-in-Err.ensures.value c.span_at-span.ensures.older)
    (subst (λ (fs : List Versioned). AllByRecursion (IsWithin x c.span_at-span.result.0 c.span_at-span.result.1) (drop c.in-Err.place fs)) c.as_slice-in-Err.ensures.value c.span_at-span.ensures.newer))
