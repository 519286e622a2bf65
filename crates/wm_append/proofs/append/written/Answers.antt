use Rattle.wm_graph.specs.Parts.{parts_of, space_of}
use Rattle.wm_spec.specs.Records.{record_at}
use Rattle.wm_spec.specs.declared.record.Record.TheVariants as records
use Rattle.wm_state.proofs.Apart.{ruled}
use Rattle.wm_state.specs.Batches.{put}
use Rattle.wm_state.specs.Writes.{put_all}
use Rattle.wm_state.proofs.Settled.{space_at}
use Rattle.wm_append.proofs.Appended.{found_there}
use Rattle.wm_changes.proofs.Placed.{counters_at}
use Rattle.wm_changes.proofs.Putting.{put_behind}
use Rattle.wm_append.proofs.append.written.Goals as goal

pub returns : goal.returns
returns c =
    let r = ruled (parts_of c.args.image.now) c.requires.rules in
    let was = found_there (space_of (parts_of c.args.image.now).spaces c.args.space.number) c.requires.there in
    record {
      counters_id = c.id_of_counters.result;
      old = r.counters;
      one = r.one;
      counters_at = counters_at r.counters (parts_of c.args.image.now).counters (record_at c.args.image.now c.id_of_counters.result) r.one c.id_of_counters.ensures.there;
      space_id = c.unwrap-space_id.result;
      was = was.0;
      found = was.1;
      space_at = space_at c.args.image.now c.args.space.number c.id_of_space.result c.unwrap-space_id.result was.0 c.unwrap-space_id.ensures c.id_of_space.ensures.there was.1;
      sorted = c.id_of_counters.ensures.ascend;
      are = put_behind c.args.front c.push.new.self c.push-2.new.self c.drop_all-pushed.new.changes c.put_all.new.changes (put_all c.args.id c.args.made.news.items) c.put.result c.put-2.result
          (put c.id_of_counters.result (records.Counters c.args.counters)) (put c.unwrap-space_id.result (records.Space c.args.space)) c.as_slice.result.now c.args.made.dropped.items c.in_ok-push.ensures.ok c.put.ensures c.in_ok-push-2.ensures.ok
          (rw c.in_ok-new.ensures at c.put-2.ensures) c.in_ok-pushed.ensures c.as_slice.ensures.value c.in_ok-put_all.ensures;
    }
