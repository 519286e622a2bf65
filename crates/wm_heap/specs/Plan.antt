-- The pages that a change of the heap writes.
use Rattle.std.specs.Prelude.{◌≡◌, ℕ, ◌<◌, ◌≤◌, true, nat_lt, List, [], replicate, None}
use Rattle.wm_page.specs.Entries.{is_named, found}
use Rattle.wm_page.specs.Fields.{number_at, eight_bytes, with_bytes}
use Rattle.wm_heap.specs.declared.heap.Heap.{Heap}
use Rattle.wm_heap.specs.declared.blob.Blob.{Blob}
use Rattle.wm_heap.specs.Content.{content, bytes_at, fault_of}
use Rattle.wm_heap.specs.Blobs.{blob_at, after}
use Rattle.wm_heap.specs.Places.{page_count, IsHeapOf}

-- page 1 of a store with this page count
unfoldable pub root_of : ℕ → List ℕ
root_of count = with_bytes (replicate 4096 0) 0 (eight_bytes count)

-- the pages take a store from one page count to another
pub record IsPlan (before count : ℕ) (pages : List (ℕ × List ℕ)) : Type 0 where
  pub no_fewer : before ≤ count
  pub within : (p : ℕ) → is_named p pages ≡ true → (1 ≤ p) × (p < count)
  pub grown : (p : ℕ) → before ≤ p → p < count → is_named p pages ≡ true
  pub root : is_named 1 pages ≡ nat_lt before count
  pub counted : before < count → number_at (found 1 pages []) 0 ≡ count

-- what the pages hold with others over them
abbrev pub laid : List (ℕ × List ℕ) → (ℕ → List ℕ) → ℕ → List ℕ
laid pages held p = found p pages (held p)

-- with these pages the store passes each test, and its bytes are those from before, changed by the blobs
pub record IsChanged (heap : Heap) (blobs : List Blob) (pages : List (ℕ × List ℕ)) (held : ℕ → List ℕ) (before : ℕ) : Type 0 where
  pub is_heap : IsHeapOf heap (laid pages held) (page_count heap)
  pub sound : (whole : ℕ) → page_count heap ≤ whole → fault_of (laid pages held) (page_count heap) whole ≡ None
  pub bytes : (id : ℕ) → bytes_at (content (laid pages held) (page_count heap)) id ≡ after (blob_at blobs id) (bytes_at (content held before) id)
