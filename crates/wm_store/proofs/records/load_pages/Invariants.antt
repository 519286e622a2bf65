use Rattle.std.proofs.Common.{◌≡◌, ◌≤◌, max, None}
use Rattle.wm_heap.specs.Content.{fault_of, slots_in}
use Rattle.wm_heap.specs.Places.{page_count, IsHeapOf}
use Rattle.wm_heap.specs.Room.{KnowsRoom}
use Rattle.wm_store.proofs.Reading.{Read}
use Rattle.wm_store.proofs.records.load_pages.Given as goal

abbrev pub invariant-loop-page : goal.invariant-loop-page
invariant-loop-page g l = record {
  few : l.page ≤ max 2 l.page-end;
  count : page_count l.heap ≡ l.page;
  told : g.G.Pages.tells → g.G.Pages.held l.pages ≡ g.G.Pages.held l.fn.pages;
  past : g.G.Pages.tells → g.G.Pages.past l.pages ≡ g.G.Pages.past l.fn.pages;
  source : g.G.Pages.source l.pages ≡ g.G.Pages.source l.fn.pages;
  in_use : g.G.Pages.in_use l.pages ≡ g.G.Pages.in_use l.fn.pages;
  in_file : g.G.Pages.in_file l.pages ≡ g.G.Pages.in_file l.fn.pages;
  faults : g.G.Pages.faults l.pages ≡ g.G.Pages.faults l.fn.pages;
  heap : g.G.Pages.tells → IsHeapOf l.heap (g.G.Pages.held l.fn.pages) (page_count l.heap);
  room : g.G.Pages.tells → KnowsRoom l.heap.room (slots_in (g.G.Pages.held l.fn.pages)) (page_count l.heap);
  sound : g.G.Pages.tells → fault_of (g.G.Pages.held l.fn.pages) (page_count l.heap) (g.G.Pages.in_file l.fn.pages) ≡ None;
  read : g.G.Pages.tells → Read (g.G.Pages.held l.fn.pages) l.page l.reader.records l.reader.unread;
}
