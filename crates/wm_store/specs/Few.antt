-- How many pages are put for blobs, by how many of them alter what stands under their ids, and which are new.
use Rattle.std.specs.Prelude.{◌≡◌, ℕ, ◌+◌, ◌-◌, ◌*◌, ◌<◌, ◌≤◌, ◌↔◌, false, ◌==◌, List, [], ◌∷◌, ◌++◌, length, Option}
use Rattle.std.specs.List.{list_any}
use Rattle.wm_page.specs.declared.write.PageWrite.{PageWrite}
use Rattle.wm_heap.specs.declared.blob.Blob.{Blob}
use Rattle.wm_heap.specs.declared.slot.Slot.{Slot}
use Rattle.wm_heap.specs.Blobs.{OverBytes}
use Rattle.wm_heap.specs.Content.{slots_in}
use Rattle.wm_heap.specs.Slots.{used}

-- each of them that is of none of these ids says what stands there already
abbrev pub AlterOnly : List ℕ → (ℕ → Option (List ℕ)) → List Blob → Type 0
AlterOnly ids standing [] = Unit {0}
AlterOnly ids standing (b ∷ blobs) = (list_any (λ k. k == b.id) ids ≡ false → standing b.id ≡ b.bytes) × AlterOnly ids standing blobs

-- pages that are put for blobs over what stands under their ids: none exactly where each blob says what stands there
-- already, and few for those that say something else; what stands under an id that is put was read, so it is known to
-- be bytes
pub record PutsFew (blobs : List Blob) (pages : List PageWrite) (standing : ℕ → Option (List ℕ)) : Type 0 where
  pub none : (pages ≡ []) ↔ AlterOnly [] standing blobs
  pub few : (ids : List ℕ) → AlterOnly ids standing blobs → length pages ≤ 2 * length ids + 2
  pub read : OverBytes standing blobs

-- from one page count to another: a page is added only where each page has less than a quarter of a page more room than
-- the slots take that are put, and the last has no room for them
pub record AddsLate (old new : ℕ) (held : ℕ → List ℕ) (put : List Slot) : Type 0 where
  pub each : old < new → (p : ℕ) → 2 ≤ p → p < old → 4096 < used (slots_in held p ++ put) + 1024
  pub last : old < new → 2 < old → 4096 < used (slots_in held (old - 1) ++ put)
