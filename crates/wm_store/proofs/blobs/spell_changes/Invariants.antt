use Rattle.wm_store.proofs.Slotwise.{Spelling}
use Rattle.wm_store.proofs.blobs.spell_changes.Given as goal

abbrev pub invariant-loop-change : goal.invariant-loop-change
invariant-loop-change l = Spelling l.blobs l.changes l.change-index
