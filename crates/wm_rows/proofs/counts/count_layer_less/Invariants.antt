use Rattle.wm_rows.proofs.Counting.{Uncounting}
use Rattle.wm_rows.specs.Maps.{maps_of}
use Rattle.wm_rows.proofs.counts.count_layer_less.Given as goal

abbrev pub invariant-loop-row : goal.invariant-loop-row
invariant-loop-row l = Uncounting (maps_of l.initial.counts.entries) (maps_of l.counts.entries) l.layer.entries l.row-iterator
