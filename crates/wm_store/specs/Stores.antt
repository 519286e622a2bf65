-- A store and the station under it.
use Rattle.std.specs.Prelude.{◌≡◌, ℕ, ◌<◌, ◌≤◌, ◌⊎◌, false, ◌==◌, List, [], ◌∷◌, length, Ok}
use Rattle.std.specs.List.{list_any}
use Rattle.wm_spec.specs.declared.record.stored.Stored.{Stored}
use Rattle.wm_spec.specs.declared.record.batch.Change.{Change}
use Rattle.wm_spec.specs.Records.{record_at, AfterBatch}
use Rattle.wm_station.specs.History.{History, now}
use Rattle.wm_journal.specs.Disk.{page}
use Rattle.wm_journal.specs.Store.{IsAtRest, over}
use Rattle.wm_heap.specs.Content.{slots_in}
use Rattle.wm_heap.specs.Places.{IsHeapOf}
use Rattle.wm_heap.specs.Room.{KnowsRoom}
use Rattle.wm_store.specs.Opened.{opened, Held}
use Rattle.wm_store.specs.declared.store.Store.{Store}

-- the station holds a store, now and after a crash, and this is its page count and its heap
pub record IsStoreOf (store : Store) (h : History) : Type 0 where
  pub rests : IsAtRest h store.journal
  pub heap : IsHeapOf store.heap (page (now h)) store.journal
  pub opens : (rs : List Stored) × (opened (now h) ≡ Ok rs)

-- the store knows how much room each page of the station leaves
abbrev pub KnowsRoomOf : Store → History → Type 0
KnowsRoomOf store h = KnowsRoom store.heap.room (slots_in (page (now h))) store.journal

-- the file holds the old records, or those after the batch
abbrev pub OldOrAfter : List Stored → List Change → List ℕ → Type 0
OldOrAfter old changes file = Held old file ⊎ ((new : List Stored) × AfterBatch old changes new × Held new file)

-- each change of none of these ids says what is there already: its record, or that there is none
abbrev pub ChangesOnly : List ℕ → List Stored → List Change → Type 0
ChangesOnly ids stored [] = Unit {0}
ChangesOnly ids stored (c ∷ changes) = (list_any (λ k. k == c.id) ids ≡ false → record_at stored c.id ≡ c.becomes) × ChangesOnly ids stored changes

-- each change says what is there already
abbrev pub ChangesNothing : List Stored → List Change → Type 0
ChangesNothing stored changes = ChangesOnly [] stored changes

-- of so many pages few are other than they were: the new ones are the old with a list of them over it
pub record DifferOnFew (count most : ℕ) (old new : ℕ → List ℕ) : Type 0 where
  pub rewritten : List (ℕ × List ℕ)
  pub few : length rewritten ≤ most
  pub pages : (p : ℕ) → 1 ≤ p → p < count → new p ≡ over rewritten old p
