-- those that were taken are drawn, by few pieces, and the others may follow
use Rattle.std.proofs.Common.{◌++◌, length, drop}
use Rattle.wm_append.specs.Layers.{view_of}
use Rattle.wm_append.specs.Redraw.{AreFew, CanFollow, IsDraft}
use Rattle.wm_append.proofs.redraw.redraw.Given as goal

abbrev pub invariant-loop-new : goal.invariant-loop-new
invariant-loop-new l = record {
  draft : IsDraft (view_of l.layer) l.image l.version l.yielded l.draft.dropped.items l.draft.left.items l.draft.finished.items l.draft.hand.items;
  few : AreFew l.yielded l.draft.dropped.items (l.draft.finished.items ++ l.draft.hand.items);
  rest : CanFollow l.version l.draft.hand.items (drop (length l.yielded) l.fn.news.items);
}
