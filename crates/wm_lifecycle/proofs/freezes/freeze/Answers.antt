use Rattle.std.proofs.Common.{◌≡◌, Some}
use Rattle.wm_graph.specs.Parts.{parts_of, space_of}
use Rattle.wm_spec.specs.Records.{record_at}
use Rattle.wm_state.proofs.Settled.{space_at}
use Rattle.wm_changes.proofs.Placed.{counters_at, looked_up}
use Rattle.wm_lifecycle.proofs.Frozen.{drafts_frozen}
use Rattle.wm_lifecycle.proofs.freezes.freeze.Goals as goal

pub returns : goal.returns
returns c =
    let rs = c.args.image.now in
    let found : space_of (parts_of rs).spaces c.args.space ≡ Some c.unwrap-old.result.now = looked_up c.space.result c.unwrap-old.result (space_of (parts_of rs).spaces c.args.space) c.unwrap-old.ensures c.space.ensures in
    drafts_frozen rs c.args.moment c.args.work c.args.space c.args.mode c.args.writer c.counters.result c.moved-counters.result c.unwrap-old.result.now c.in_ok-new.new c.id_of_counters-counters_id.result c.unwrap-space_id.result c.in_ok-changes.changes
    c.requires.rules c.requires.work c.requires.can c.law_of_order.ensures c.counters.ensures
    (counters_at c.counters.result (parts_of rs).counters (record_at rs c.id_of_counters-counters_id.result) c.counters.ensures c.id_of_counters-counters_id.ensures.there) found
    (space_at rs c.args.space c.id_of_space.result c.unwrap-space_id.result c.unwrap-old.result.now c.unwrap-space_id.ensures c.id_of_space.ensures.there found) c.moved-counters.ensures c.in_ok-new.ensures c.in_ok-changes.ensures
