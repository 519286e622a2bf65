use Rattle.std.proofs.Common.{◌≡◌, ◌<◌, ◌≤◌, ◌-◌, suc, length, arith}
use Rattle.wm_ids.proofs.Placing.{place_before}
use Rattle.wm_ids.proofs.Widening.{span_newer, span_older}
use Rattle.wm_ids.proofs.versioned.span_at.Goals as goal

pub returns-clause-older : goal.returns-clause-older
returns-clause-older c =
    let before : c.args.place ≡ suc (c.args.place - 1) = place_before c.args.place c.if-place-eq0.false in
    let within : c.args.place ≤ length c.args.versions.now = c.requires.within in
    let less : c.args.place - 1 < length c.args.versions.now = omega (arith, before, within) in
    span_older c.args.versions.now c.args.place (c.args.place - 1) c.min-from.result c.max-till.result c.args.piece.now.cells.from c.args.piece.now.cells.till c.index-versions-place.result before less c.requires.widens
    c.index-versions-place.is c.min-from.ensures c.max-till.ensures

pub returns-clause-newer : goal.returns-clause-newer
returns-clause-newer c =
    let before : c.args.place ≡ suc (c.args.place - 1) = place_before c.args.place c.if-place-eq0.false in
    let within : c.args.place ≤ length c.args.versions.now = c.requires.within in
    let less : c.args.place - 1 < length c.args.versions.now = omega (arith, before, within) in
    span_newer c.args.versions.now c.args.piece.now c.args.place (c.args.place - 1) c.min-from.result c.max-till.result c.index-versions-place.result before less c.requires.widens c.index-versions-place.is c.min-from.ensures
    c.max-till.ensures
