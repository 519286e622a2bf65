use Rattle.std.proofs.Common.{◌≡◌, ℕ, ◌≤◌, ◌++◌, ◌⊎◌, List, Some}
use Rattle.std.specs.List.{AllByRecursion}
use Rattle.wm_page.specs.Batch.{entries}
use Rattle.wm_heap.specs.declared.slot.Slot.{Slot}
use Rattle.wm_heap.specs.Draft.{written}
use Rattle.wm_heap.specs.Places.{at}
use Rattle.wm_heap.specs.Slots.{slots_of, page_of, used}
use Rattle.wm_heap.proofs.draft.write_pages.Given as goal

abbrev pub invariant-loop-page : goal.invariant-loop-page
invariant-loop-page l = record {
  pages : entries l.writes ++ written l.page-iterator ≡ entries l.fn.writes ++ written l.changed.entries;
  room : AllByRecursion (λ e. used e.1 ≤ 4096) l.page-iterator;
  again : (p : ℕ) (slots : List Slot) → at l.changed.entries p ≡ Some slots → (at l.page-iterator p ≡ Some slots) ⊎ (slots_of (page_of slots) ≡ Some slots);
}
