use Rattle.std.proofs.Common.{take}
use Rattle.wm_cells.specs.Lookups.{referred}
use Rattle.wm_cells.proofs.Finding.{Finds}
use Rattle.wm_cells.proofs.index.index_of.Given as goal

abbrev pub invariant-loop-item : goal.invariant-loop-item
invariant-loop-item g l = Finds (λ x. g.T.Numbered.number_of x) (referred (take l.item-index l.items)) l.index.entries l.differ
