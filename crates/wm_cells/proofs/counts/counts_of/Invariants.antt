use Rattle.std.proofs.Common.{take}
use Rattle.wm_cells.specs.Lookups.{referred}
use Rattle.wm_cells.proofs.Counting.{Counts}
use Rattle.wm_cells.proofs.counts.counts_of.Given as goal

abbrev pub invariant-loop-item : goal.invariant-loop-item
invariant-loop-item g l = Counts g.T.Placed.space_of (referred (take l.item-index l.items)) l.counts.entries
