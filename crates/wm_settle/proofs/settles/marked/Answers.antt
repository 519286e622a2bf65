use Rattle.wm_graph.specs.Parts.{parts_of}
use Rattle.wm_spec.specs.Records.{record_at}
use Rattle.wm_spec.specs.declared.record.Record.TheVariants as records
use Rattle.wm_state.proofs.Apart.{ruled}
use Rattle.wm_state.specs.Batches.{put}
use Rattle.wm_state.specs.Writes.{put_all}
use Rattle.wm_changes.proofs.Placed.{counters_at}
use Rattle.wm_settle.proofs.Drafted.{put_first}
use Rattle.wm_settle.proofs.settles.marked.Goals as goal

pub returns : goal.returns
returns c =
    let r = ruled (parts_of c.args.image.now) c.requires.rules in
    record {
      counters_id = c.id_of_counters.result;
      old = r.counters;
      one = r.one;
      counters_at = counters_at r.counters (parts_of c.args.image.now).counters (record_at c.args.image.now c.id_of_counters.result) r.one c.id_of_counters.ensures.there;
      sorted = c.id_of_counters.ensures.ascend;
      are = put_first c.new-changes.result c.push.new.self c.drop_all-pushed.new.changes c.put_all.new.changes (put_all c.args.id c.args.made.news.items) c.put.result (put c.id_of_counters.result (records.Counters c.args.counters))
          c.as_slice.result.now c.args.made.dropped.items c.new-changes.ensures c.in_ok-push.ensures.ok c.put.ensures c.in_ok-pushed.ensures c.as_slice.ensures.value c.in_ok-put_all.ensures;
    }
