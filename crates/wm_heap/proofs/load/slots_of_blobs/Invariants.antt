use Rattle.std.proofs.Common.{◌≡◌, ◌++◌, drop}
use Rattle.wm_heap.specs.Blobs.{slots_put}
use Rattle.wm_heap.proofs.load.slots_of_blobs.Given as goal

abbrev pub invariant-loop-blob : goal.invariant-loop-blob
invariant-loop-blob l = l.slots ++ slots_put (drop l.blob-index l.blobs) ≡ slots_put l.blobs
