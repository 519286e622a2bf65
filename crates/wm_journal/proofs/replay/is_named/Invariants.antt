use Rattle.std.proofs.Common.{◌≡◌, drop}
use Rattle.wm_page.specs.Batch.{entries}
use Rattle.wm_page.specs.Entries.{is_named}
use Rattle.wm_journal.proofs.replay.is_named.Given as goal

abbrev pub invariant-loop-write : goal.invariant-loop-write
invariant-loop-write l = is_named l.page (entries (drop l.write-index l.pages)) ≡ is_named l.page (entries l.pages)
