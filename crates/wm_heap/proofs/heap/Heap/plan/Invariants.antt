use Rattle.std.proofs.Common.{◌≡◌, ◌*◌, ◌≤◌, length}
use Rattle.wm_heap.specs.Content.{slots_in}
use Rattle.wm_heap.specs.Places.{page_count}
use Rattle.wm_heap.specs.Room.{KnowsRoom}
use Rattle.wm_heap.proofs.Planning.{Going, Leaning, Spreading, Telling}
use Rattle.wm_heap.proofs.heap.Heap.plan.Given as goal

abbrev pub invariant-loop-blob : goal.invariant-loop-blob
invariant-loop-blob g l = record {
  going : Going l.fn.self l.self l.changed.entries l.fn.batch l.blob-index;
  few : length l.changed.entries ≤ 2 * l.blob-index;
  within : l.blob-index ≤ length l.fn.batch;
  told : g.G.Pages.tells → g.G.Pages.held l.pages ≡ g.G.Pages.held l.fn.pages;
  past : g.G.Pages.tells → g.G.Pages.past l.pages ≡ g.G.Pages.past l.fn.pages;
  source : g.G.Pages.source l.pages ≡ g.G.Pages.source l.fn.pages;
  in_use : g.G.Pages.in_use l.pages ≡ g.G.Pages.in_use l.fn.pages;
  in_file : g.G.Pages.in_file l.pages ≡ g.G.Pages.in_file l.fn.pages;
  faults : g.G.Pages.faults l.pages ≡ g.G.Pages.faults l.fn.pages;
  telling : g.G.Pages.tells → Telling l.self l.changed.entries (g.G.Pages.held l.fn.pages) (g.G.Pages.in_use l.fn.pages) (g.G.Pages.in_file l.fn.pages) l.fn.batch l.blob-index;
  leaning : g.G.Pages.tells → Leaning l.fn.self l.self l.changed.entries (g.G.Pages.held l.fn.pages) l.fn.batch l.blob-index;
  spreading : g.G.Pages.tells → KnowsRoom l.fn.self.room (slots_in (g.G.Pages.held l.fn.pages)) (page_count l.fn.self) → Spreading l.fn.self l.self l.changed.entries (g.G.Pages.held l.fn.pages) l.fn.batch l.blob-index;
}
