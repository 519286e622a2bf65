use Rattle.std.proofs.Common.{◌≡◌, ◌<◌, ◌+◌, ◌-◌, length, arith}
use Rattle.wm_chunks.proofs.Rising.{fits_behind, stands_from}
use Rattle.wm_ids.specs.Versioned.{entry_version}
use Rattle.wm_ids.proofs.Placing.{last_place}
use Rattle.wm_ids.proofs.versioned.find_version.Goals as goal

pub returns-then-newest-version-clause-fits : goal.returns-then-newest-version-clause-fits
returns-then-newest-version-clause-fits c =
    fits_behind entry_version 0 c.args.versions.now c.args.version (length c.args.versions.now - 1) c.index-versions-last.result c.requires
    (last_place (length c.args.versions.now) c.is_empty.result c.is_empty.ensures c.if-is_empty.false) c.if-newest-version.true

pub returns-then-newest-version-2-clause-found : goal.returns-then-newest-version-2-clause-found
returns-then-newest-version-2-clause-found c =
    let last : length c.args.versions.now - 1 + 1 ≡ length c.args.versions.now = last_place (length c.args.versions.now) c.is_empty.result c.is_empty.ensures c.if-is_empty.false in
    let within : length c.args.versions.now - 1 < length c.args.versions.now = omega (arith, last) in
    stands_from entry_version 0 c.args.versions.now c.args.version (length c.args.versions.now - 1) c.index-versions-last.result c.requires within c.if-newest-version-2.true
