-- those that were gone through are copied
use Rattle.std.proofs.Common.{◌≡◌, take}
use Rattle.wm_index.proofs.copies.column_copies.Given as goal

abbrev pub invariant-loop-column : goal.invariant-loop-column
invariant-loop-column l = l.copies ≡ take l.column-index l.column-items
