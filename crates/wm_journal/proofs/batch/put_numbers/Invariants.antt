use Rattle.std.proofs.Common.{◌≡◌, ◌++◌, drop}
use Rattle.wm_page.specs.Batch.{entries}
use Rattle.wm_journal.specs.Writes.{numbers_of}
use Rattle.wm_journal.proofs.batch.put_numbers.Given as goal

abbrev pub invariant-loop-write : goal.invariant-loop-write
invariant-loop-write l = l.bytes.items ++ numbers_of (entries (drop l.write-index l.pages)) ≡ l.initial.bytes.items ++ numbers_of (entries l.pages)
