use Rattle.wm_version_rows.proofs.Spanning.{spans_over}
use Rattle.wm_version_rows.proofs.overlap.push_spans.Goals as goal

pub loop-left-preserved : goal.loop-left-preserved
loop-left-preserved c = record {
  same =
      spans_over c.loop-left.from c.from_behind-from.result c.piece-item.result c.loop-left.left.now _ c.loop-left.spans.items c.push_span.new.spans.items
      c.in-len1-up.len_at_least c.piece-item.is c.from_behind-from.ensures.value c.loop-left.invariant.same c.in_ok-push_span.ensures;
  begun = c.from_behind-from.ensures.begun;
}
