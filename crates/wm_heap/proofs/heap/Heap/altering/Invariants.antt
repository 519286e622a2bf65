use Rattle.std.proofs.Common.{◌≡◌, is_some}
use Rattle.wm_heap.specs.Blobs.{WasRead}
use Rattle.wm_heap.specs.Content.{bytes_at, content}
use Rattle.wm_heap.specs.Places.{place_of}
use Rattle.wm_heap.proofs.Altering.{Leaving, Altered}
use Rattle.wm_heap.proofs.heap.Heap.altering.Given as goal

abbrev pub invariant-loop-blob : goal.invariant-loop-blob
invariant-loop-blob g l = record {
  leaving : Leaving (λ id. is_some (place_of l.fn.self id)) l.left l.yielded;
  told : g.G.Pages.tells → g.G.Pages.held l.pages ≡ g.G.Pages.held l.fn.pages;
  past : g.G.Pages.tells → g.G.Pages.past l.pages ≡ g.G.Pages.past l.fn.pages;
  source : g.G.Pages.source l.pages ≡ g.G.Pages.source l.fn.pages;
  in_use : g.G.Pages.in_use l.pages ≡ g.G.Pages.in_use l.fn.pages;
  in_file : g.G.Pages.in_file l.pages ≡ g.G.Pages.in_file l.fn.pages;
  faults : g.G.Pages.faults l.pages ≡ g.G.Pages.faults l.fn.pages;
  altered : g.G.Pages.tells → Altered (bytes_at (content (g.G.Pages.held l.fn.pages) (g.G.Pages.in_use l.fn.pages))) l.left l.yielded;
  last : g.G.Pages.tells → WasRead l.last (g.G.Pages.held l.fn.pages);
}
