use Rattle.std.proofs.Common.{◌≡◌, ◌+◌, List, ◌++◌, drop, length, None}
use Rattle.wm_listing.specs.declared.listing.Listing.{Listing as Source}
use Rattle.wm_syntax.specs.Views.{query_view, srcs_view}
use Rattle.wm_graph.specs.Parts.{parts_of}
use Rattle.wm_model.specs.Planning.{tables_in}
use Rattle.wm_model.specs.Step.{columns_in, lost_source}
use Rattle.wm_joining.specs.Kept.{is_kept}
use Rattle.wm_views.specs.Looking.{look_view}
use Rattle.wm_views.specs.Narrowed.{AreListedFor}
use Rattle.wm_views.proofs.listing.sources_in.Given as goal

abbrev pub invariant-loop-source : goal.invariant-loop-source
invariant-loop-source l = record {
  there : lost_source (tables_in l.image) (srcs_view (drop l.source-index l.sources)) ≡ None;
  room : length l.columns ≡ l.before + length (columns_in (tables_in l.image) (srcs_view (drop l.source-index l.sources)));
  listed : (more : List Source) → AreListedFor (parts_of l.image) (look_view (parts_of l.image) l.look) (tables_in l.image) (is_kept (query_view l.query) l.columns) l.before (srcs_view (drop l.source-index l.sources)) more
      → AreListedFor (parts_of l.image) (look_view (parts_of l.image) l.look) (tables_in l.image) (is_kept (query_view l.query) l.columns) 0 (srcs_view l.sources) (l.listings.items ++ more);
}
