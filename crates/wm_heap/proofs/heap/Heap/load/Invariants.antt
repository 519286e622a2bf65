use Rattle.std.proofs.Common.{◌≡◌, ℕ, ◌≤◌, ◌<◌, max, None}
use Rattle.wm_heap.specs.Content.{fault_of, slots_in}
use Rattle.wm_heap.specs.Places.{page_count, IsHeapOf}
use Rattle.wm_heap.specs.Room.{KnowsRoom}
use Rattle.wm_heap.proofs.heap.Heap.load.Given as goal

abbrev pub invariant-loop : goal.invariant-loop
invariant-loop g l = record {
  few : l.counter ≤ max 2 l.end;
  count : page_count l.heap ≡ l.counter;
  whole : (p : ℕ) → 2 ≤ p → p < l.counter → p < g.G.Pages.in_file l.fn.pages;
  told : g.G.Pages.tells → g.G.Pages.held l.pages ≡ g.G.Pages.held l.fn.pages;
  past : g.G.Pages.tells → g.G.Pages.past l.pages ≡ g.G.Pages.past l.fn.pages;
  source : g.G.Pages.source l.pages ≡ g.G.Pages.source l.fn.pages;
  in_use : g.G.Pages.in_use l.pages ≡ g.G.Pages.in_use l.fn.pages;
  in_file : g.G.Pages.in_file l.pages ≡ g.G.Pages.in_file l.fn.pages;
  faults : g.G.Pages.faults l.pages ≡ g.G.Pages.faults l.fn.pages;
  heap : g.G.Pages.tells → IsHeapOf l.heap (g.G.Pages.held l.fn.pages) (page_count l.heap);
  room : g.G.Pages.tells → KnowsRoom l.heap.room (slots_in (g.G.Pages.held l.fn.pages)) (page_count l.heap);
  sound : g.G.Pages.tells → fault_of (g.G.Pages.held l.fn.pages) (page_count l.heap) (g.G.Pages.in_file l.fn.pages) ≡ None;
}
