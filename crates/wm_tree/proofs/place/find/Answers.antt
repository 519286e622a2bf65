use Rattle.std.proofs.Common.{◌<◌, length, sym, arith}
use Rattle.wm_tree.proofs.Placing.{found_there, other_there, nothing_there}
use Rattle.wm_tree.proofs.place.find.Goals as goal

pub returns-then-place-versions : goal.returns-then-place-versions
returns-then-place-versions c =
    sym (nothing_there _ _ c.place_of-place.result (omega (arith, c.if-place-versions.true)) c.place_of-place.ensures.before)

pub returns-then-version-number : goal.returns-then-version-number
returns-then-version-number c =
    let within : c.place_of-place.result < length c.args.versions.now = omega (arith, c.place_of-place.ensures.within, c.if-place-versions.false) in
    sym (other_there _ _ c.place_of-place.result _ c.requires within c.place_of-place.ensures.before c.place_of-place.ensures.behind c.if-version-number.true)

pub returns : goal.returns
returns c =
    let within : c.place_of-place.result < length c.args.versions.now = omega (arith, c.place_of-place.ensures.within, c.if-place-versions.false) in
    sym (found_there _ c.place_of-place.result _ _ c.requires within c.if-version-number.false)
