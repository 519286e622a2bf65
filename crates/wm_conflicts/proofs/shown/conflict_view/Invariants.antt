use Rattle.std.proofs.Common.{◌≡◌, take}
use Rattle.wm_graph.specs.Parts.{parts_of}
use Rattle.wm_conflicts.proofs.Showing.{all_shown}
use Rattle.wm_conflicts.proofs.shown.conflict_view.Given as goal

abbrev pub invariant-loop-conflict : goal.invariant-loop-conflict
invariant-loop-conflict l = l.rows ≡ all_shown (parts_of l.image) l.space l.parent l.table (take l.conflict-index l.conflict-items)
