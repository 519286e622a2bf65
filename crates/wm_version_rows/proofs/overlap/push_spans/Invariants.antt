use Rattle.std.proofs.Common.{◌≡◌, ◌++◌, map, length}
use Rattle.wm_state.specs.Listing.{span_on}
use Rattle.wm_version_rows.specs.Standing.{IsBegun, stretches_from, stretches_on}
use Rattle.wm_version_rows.proofs.overlap.push_spans.Given as goal

abbrev pub invariant-loop-left : goal.invariant-loop-left
invariant-loop-left l = record {
  same : l.spans.items ++ map span_on (stretches_from l.from l.left) ≡ l.fn.spans.items ++ map span_on (stretches_on l.pieces);
  begun : IsBegun l.from l.left;
}

abbrev pub decreases-loop-left : goal.decreases-loop-left
decreases-loop-left l = length l.left
