use Rattle.std.proofs.Common.{◌≡◌, ◌++◌, length}
use Rattle.wm_graph.specs.Parts.{parts_of}
use Rattle.wm_version_rows.specs.Listing.{shown_on}
use Rattle.wm_version_rows.specs.Standing.{IsBegun, stretches_from, stretches_on}
use Rattle.wm_version_rows.proofs.listing.push_rows.Given as goal

abbrev pub invariant-loop-left : goal.invariant-loop-left
invariant-loop-left l = record {
  same : l.rows ++ shown_on (parts_of l.image) l.asked.valid l.asked.within (stretches_from l.from l.left) ≡ l.fn.rows ++ shown_on (parts_of l.image) l.asked.valid l.asked.within (stretches_on l.pieces);
  begun : IsBegun l.from l.left;
}

abbrev pub decreases-loop-left : goal.decreases-loop-left
decreases-loop-left l = length l.left
