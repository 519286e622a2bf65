use Rattle.std.proofs.Common.{List, sym, ap, subst, ◌∙◌}
use Rattle.wm_ids.proofs.Placing.{fits_under, stands_under}
use Rattle.wm_ids.specs.Versioned.{VersionsRise, ids_under}
use Rattle.wm_ids.specs.declared.versioned.Versioned.{Versioned}
use Rattle.wm_ids.proofs.versioned.ids_of_version.Goals as goal

pub returns-in-Ok : goal.returns-in-Ok
returns-in-Ok c =
    c.as_slice.ensures
    ∙ sym (stands_under c.versions_of_key-versions.result.now c.args.version c.in-Ok.place c.index-versions-place.result c.in-Ok.ensures.found)
    ∙ ap (λ (es : List Versioned). ids_under es c.args.version) c.versions_of_key-versions.ensures

pub returns-in-Err : goal.returns-in-Err
returns-in-Err c =
    sym (fits_under 0 c.versions_of_key-versions.result.now c.args.version c.in-Err.field-0 c.in-Err.ensures.fits (subst VersionsRise (sym c.versions_of_key-versions.ensures) c.requires))
    ∙ ap (λ (es : List Versioned). ids_under es c.args.version) c.versions_of_key-versions.ensures
