-- those that were gone through are copied
use Rattle.std.proofs.Common.{◌≡◌, take}
use Rattle.wm_changes.proofs.copies.change_copies.Given as goal

abbrev pub invariant-loop-change : goal.invariant-loop-change
invariant-loop-change l = l.copies ≡ take l.change-index l.change-items
