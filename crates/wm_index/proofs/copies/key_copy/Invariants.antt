-- those that were gone through are copied
use Rattle.std.proofs.Common.{◌≡◌, take}
use Rattle.wm_index.proofs.copies.key_copy.Given as goal

abbrev pub invariant-loop-place : goal.invariant-loop-place
invariant-loop-place l = l.copies ≡ take l.place-index l.place-items
