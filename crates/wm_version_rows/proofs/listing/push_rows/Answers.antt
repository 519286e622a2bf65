use Rattle.wm_graph.specs.Parts.{parts_of}
use Rattle.wm_version_rows.proofs.Spanning.{gone_over}
use Rattle.wm_version_rows.proofs.listing.push_rows.Goals as goal

pub loop-left-preserved : goal.loop-left-preserved
loop-left-preserved c = record {
  same =
      gone_over (parts_of c.args.image.now) c.args.asked.now.valid c.args.asked.now.within c.loop-left.from c.from_behind-from.result c.piece-item.result c.loop-left.left.now _ c.loop-left.rows c.push_ending.new.rows
      c.in-len1-up.len_at_least c.piece-item.is c.from_behind-from.ensures.value c.loop-left.invariant.same c.in_ok-push_ending.ensures;
  begun = c.from_behind-from.ensures.begun;
}
