use Rattle.std.proofs.Common.{◌≡◌, drop}
use Rattle.wm_page.specs.Batch.{entries}
use Rattle.wm_journal.specs.Store.{count_after}
use Rattle.wm_journal.proofs.batch.count_after.Given as goal

abbrev pub invariant-loop-write : goal.invariant-loop-write
invariant-loop-write l = count_after l.count (entries (drop l.write-index l.pages)) ≡ count_after l.count (entries l.pages)
