-- How many pages of its file a line changes.
use Rattle.std.specs.Prelude.{ℕ, List}
use Rattle.wm_journal.specs.Disk.{page}
use Rattle.wm_store.specs.Stores.{DifferOnFew}
use Rattle.wm_store.specs.declared.store.Store.{Store}

-- of the pages behind page 0 that the store has now, at most so many are other in the new file than in the old one
abbrev pub ChangesPages : Store → ℕ → List ℕ → List ℕ → Type 0
ChangesPages store most old new = DifferOnFew store.journal most (page old) (page new)
