use Rattle.std.proofs.Common.{refl}
use Rattle.wm_graph.specs.Parts.{parts_of, space_of}
use Rattle.wm_state.specs.Points.{versioned}
use Rattle.wm_state.specs.Standing.{saved_as}
use Rattle.wm_undone.specs.Restoring.{restored_to}
use Rattle.wm_changes.proofs.Placed.{looked_up, places_of, version_fits}
use Rattle.wm_lifecycle.proofs.GoneBack.{drafts_back, restoring_is}
use Rattle.wm_lifecycle.proofs.restores.restore.Goals as goal

pub versioned-counted-requires-clause-versions : goal.versioned-counted-requires-clause-versions
versioned-counted-requires-clause-versions c = version_fits (parts_of c.args.image.now) c.counters-counters.result c.requires.rules c.counters-counters.ensures

pub returns-clause-drafts : goal.returns-clause-drafts
returns-clause-drafts c =
    let found = looked_up c.space.result c.unwrap-old.result (space_of (parts_of c.args.image.now).spaces c.args.space) c.unwrap-old.ensures c.space.ensures in
    let saved = looked_up c.savepoint.result c.unwrap-savepoint.result (saved_as (parts_of c.args.image.now) c.args.space c.args.making) c.unwrap-savepoint.ensures c.savepoint.ensures in
    drafts_back c.args.image.now c.args.moment c.args.work c.args.space c.args.making c.counters-counters.result c.unwrap-old.result.now c.unwrap-savepoint.result.now c.id_of_counters-counters_id.result c.unwrap-space_id.result c.in_ok-id.id
    c.in_ok-dropped.dropped.items c.push.new.self c.requires.rules c.requires.work c.requires.can
    (places_of c.args.image.now c.args.space c.id_of_counters-counters_id.result c.id_of_space.result c.unwrap-space_id.result c.in_ok-id.id c.counters-counters.result c.unwrap-old.result.now c.id_of_counters-counters_id.ensures.ascend
    c.counters-counters.ensures c.id_of_counters-counters_id.ensures.there c.unwrap-space_id.ensures c.id_of_space.ensures.there found c.in_ok-id.ensures.above)
    found saved c.in_ok-dropped.ensures
    (restoring_is c.id_of_counters-counters_id.result c.unwrap-space_id.result c.in_ok-id.id c.versioned-counted.result (versioned c.counters-counters.result c.args.moment c.args.work) c.in_ok-new.new
    (restored_to c.unwrap-savepoint.result.now c.unwrap-old.result.now) c.in_ok-dropped.dropped.items c.as_slice.result.now
    (record { number = c.counters-counters.result.next_version; space = c.args.space; parent = c.unwrap-savepoint.result.now.version }) (record { number = c.counters-counters.result.next_version; space = c.args.space; parent = c.unwrap-savepoint.result.now.version })
    c.in_ok-changes.changes c.drop_all-pushed.new.changes c.push.new.self c.put.result c.versioned-counted.ensures c.in_ok-new.ensures c.as_slice.ensures.value refl c.in_ok-changes.ensures c.in_ok-pushed.ensures c.put.ensures c.in_ok-push.ensures.ok)
