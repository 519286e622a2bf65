use Rattle.wm_graph.specs.Parts.{parts_of}
use Rattle.wm_differences.proofs.Gathering.{GatheredTo}
use Rattle.wm_differences.specs.Shown.{versions_of}
use Rattle.wm_differences.proofs.shown.difference_view.Given as goal

abbrev pub invariant-loop-key : goal.invariant-loop-key
invariant-loop-key l = GatheredTo (parts_of l.image) (versions_of l.versions) l.first l.second l.table l.initial.key-iterator l.key-iterator l.rows
