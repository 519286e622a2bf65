use Rattle.wm_graph.specs.Parts.{parts_of}
use Rattle.wm_spec.specs.Records.{record_at}
use Rattle.wm_state.specs.Points.{moved}
use Rattle.wm_changes.proofs.Placed.{counters_at}
use Rattle.wm_lifecycle.proofs.GoneWith.{drafts_gone, removing_is}
use Rattle.wm_lifecycle.proofs.removals.remove.Goals as goal

pub returns : goal.returns
returns c =
    drafts_gone c.args.image.now c.args.moment c.args.work c.args.space c.counters-counters.result c.id_of_counters-counters_id.result c.in_ok-dropped.dropped.items c.drop_all-pushed.new.changes c.requires.rules c.requires.work c.counters-counters.ensures c.requires.can
    (counters_at c.counters-counters.result (parts_of c.args.image.now).counters (record_at c.args.image.now c.id_of_counters-counters_id.result) c.counters-counters.ensures c.id_of_counters-counters_id.ensures.there) c.id_of_counters-counters_id.ensures.ascend
    c.in_ok-dropped.ensures
    (removing_is c.id_of_counters-counters_id.result c.moved-counted.result (moved c.counters-counters.result c.args.moment c.args.work) c.in_ok-dropped.dropped.items c.as_slice.result.now c.new-changes.result c.push.new.self c.drop_all-pushed.new.changes c.put.result
    c.moved-counted.ensures c.as_slice.ensures.value c.new-changes.ensures c.put.ensures c.in_ok-push.ensures.ok c.in_ok-pushed.ensures)
