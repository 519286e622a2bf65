-- What a heap knows of the room of its pages.
use Rattle.std.specs.Prelude.{◌≡◌, ℕ, ◌+◌, ◌<◌, ◌≤◌, ◌↔◌, true, ◌==◌, nat_le, if◌then◌else◌, List}
use Rattle.std.specs.BTreeSet.{BTreeSet, contains}
use Rattle.std.specs.Ordering.{nat_cmp}
use Rattle.wm_heap.specs.declared.heap.Heap.{Heap}
use Rattle.wm_heap.specs.declared.room.Room.{Room}
use Rattle.wm_heap.specs.declared.slot.Slot.{Slot}
use Rattle.wm_heap.specs.Slots.{used}
use Rattle.wm_heap.specs.Draft.{slots_now}
use Rattle.wm_heap.specs.Places.{page_count}

-- so many bytes, rounded up to whole quarters of a page, or to all that a page without slots leaves
abbrev pub quarters : ℕ → ℕ
quarters need = if nat_le need 1024 then 1024 else if nat_le need 2048 then 2048 else if nat_le need 3072 then 3072 else 4094

-- a page from 2 up to before the count leaves so many bytes, or more
abbrev pub Leaves : ℕ → (ℕ → List Slot) → ℕ → ℕ → Type 0
Leaves least slots count p = (2 ≤ p) × (p < count) × (used (slots p) + least ≤ 4096)

-- a set has just those of the pages from 2 up to before the count that leave so many bytes, or more
abbrev pub AreThose : BTreeSet ℕ → ℕ → (ℕ → List Slot) → ℕ → Type 0
AreThose pages least slots count = (p : ℕ) → (contains nat_cmp pages p ≡ true) ↔ Leaves least slots count p

-- what is known of the room of the pages is so: the four sets are those pages, and the page that took the last record
-- leaves what it is said to leave
pub record KnowsRoom (room : Room) (slots : ℕ → List Slot) (count : ℕ) : Type 0 where
  pub quarter : AreThose room.quarter 1024 slots count
  pub half : AreThose room.half 2048 slots count
  pub three_quarters : AreThose room.three_quarters 3072 slots count
  pub empty : AreThose room.empty 4094 slots count
  pub page : 0 < room.left → Leaves room.left slots count room.page

-- a page leaves so many bytes now, and what is known of the others stays
pub record Keeps (number bytes : ℕ) (old new : Room) : Type 0 where
  pub quarter : (p : ℕ) → contains nat_cmp new.quarter p ≡ (if p == number then nat_le 1024 bytes else contains nat_cmp old.quarter p)
  pub half : (p : ℕ) → contains nat_cmp new.half p ≡ (if p == number then nat_le 2048 bytes else contains nat_cmp old.half p)
  pub three_quarters : (p : ℕ) → contains nat_cmp new.three_quarters p ≡ (if p == number then nat_le 3072 bytes else contains nat_cmp old.three_quarters p)
  pub empty : (p : ℕ) → contains nat_cmp new.empty p ≡ (if p == number then nat_le 4094 bytes else contains nat_cmp old.empty p)
  pub page : new.page ≡ old.page
  pub left : new.left ≡ (if number == old.page then bytes else old.left)

-- a step that puts so many bytes: the room of the pages is known after it, and a page is added only where each page
-- leaves less than so many bytes in whole quarters
pub record Spreads (old new : Heap) (was now : List (ℕ × List Slot)) (held : ℕ → List ℕ) (size : ℕ) : Type 0 where
  pub knows : KnowsRoom new.room (slots_now now held) (page_count new)
  pub full : page_count old < page_count new → (p : ℕ) → 2 ≤ p → p < page_count old → 4096 < used (slots_now was held p) + quarters size
