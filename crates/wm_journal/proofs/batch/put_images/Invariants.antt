use Rattle.std.proofs.Common.{◌≡◌, ◌++◌, drop}
use Rattle.wm_page.specs.Batch.{entries}
use Rattle.wm_journal.specs.Writes.{images_of}
use Rattle.wm_journal.proofs.batch.put_images.Given as goal

abbrev pub invariant-loop-write : goal.invariant-loop-write
invariant-loop-write l = l.bytes.items ++ images_of (entries (drop l.write-index l.pages)) ≡ l.initial.bytes.items ++ images_of (entries l.pages)
