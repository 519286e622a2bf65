use Rattle.std.proofs.Common.{◌<◌, List, length, ap, sym, subst, ◌∙◌}
use Rattle.std.proofs.lemmas.Bool.{eqb-true}
use Rattle.std.proofs.lemmas.List.{nil_from_length}
use Rattle.std.specs.List.Sorted.{IsStrictlySortedBy}
use Rattle.std.specs.Ordering.{nat_cmp}
use Rattle.wm_ids.proofs.Placing.{fits_under, remove-set, stands_under}
use Rattle.wm_ids.proofs.Versioning.{less_gone, less_none, less_there}
use Rattle.wm_chunks.specs.Rising.{FitsAt, StandsAt}
use Rattle.wm_ids.specs.Versioned.{HasLess, entry_version}
use Rattle.wm_ids.specs.declared.versioned.Versioned.{Versioned}
use Rattle.wm_ids.proofs.versioned.drop_version_id.Goals as goal

pub returns-in_default : goal.returns-in_default
returns-in_default c =
    less_none c.args.versions.now.items c.args.version c.args.id c.requires.nested
    (fits_under 0 c.args.versions.now.items c.args.version c.in_default.field-0 (subst (λ (es : List Versioned). FitsAt entry_version c.args.version es c.in_default.field-0) c.as_slice.ensures.value c.in_default.ensures.fits) c.requires.nested.rises)

pub empties-requires : goal.empties-requires
empties-requires c =
    subst (IsStrictlySortedBy nat_cmp)
    (stands_under c.args.versions.now.items c.args.version c.in-Ok.place c.index_mut.result.now (subst (λ (es : List Versioned). StandsAt entry_version c.args.version es c.in-Ok.place) c.as_slice.ensures.value c.in-Ok.ensures.found)
    ∙ ap (λ (e : Versioned). e.ids) (sym c.index_mut.ensures.value))
    c.requires.ascend

pub returns-then-empties : goal.returns-then-empties
returns-then-empties c =
    subst (HasLess c.args.id c.args.version c.args.versions.now.items) (sym (c.remove.ensures.items ∙ remove-set c.args.versions.now.items c.in-Ok.place c.empties.new.one))
    (less_gone c.args.versions.now.items c.args.version c.in-Ok.place c.args.id c.index_mut.result.now c.requires.nested
    (subst (λ (es : List Versioned). StandsAt entry_version c.args.version es c.in-Ok.place) c.as_slice.ensures.value c.in-Ok.ensures.found)
    (subst (λ (es : List Versioned). c.in-Ok.place < length es) c.as_slice.ensures.value c.in-Ok.ensures.within) c.index_mut.ensures.value
    (sym c.empties.ensures.ids ∙ nil_from_length c.empties.new.one.ids (eqb-true (length c.empties.new.one.ids) 0 (sym c.empties.ensures.empty ∙ c.if-empties.true))))

pub returns-else-empties : goal.returns-else-empties
returns-else-empties c =
    less_there c.args.versions.now.items c.args.version c.in-Ok.place c.args.id c.index_mut.result.now c.empties.new.one c.requires.nested
    (subst (λ (es : List Versioned). StandsAt entry_version c.args.version es c.in-Ok.place) c.as_slice.ensures.value c.in-Ok.ensures.found)
    (subst (λ (es : List Versioned). c.in-Ok.place < length es) c.as_slice.ensures.value c.in-Ok.ensures.within) c.index_mut.ensures.value c.empties.ensures.version c.empties.ensures.from c.empties.ensures.till
    c.empties.ensures.ids
