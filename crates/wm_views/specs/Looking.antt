-- What a session looks at, as the code has it, and what a query answers over that.
use Rattle.std.specs.Prelude.{◌≡◌, List, Option, Some, None}
use Rattle.wm_listing.specs.declared.listing.Listing.{Listing as Source}
use Rattle.wm_syntax.specs.Trees.{Query}
use Rattle.wm_graph.specs.Parts.{Parts}
use Rattle.wm_model.specs.Sources as sources
use Rattle.wm_model.specs.Sources.{AreListed, reading_at}
use Rattle.wm_model.specs.Step.{answer_rows, within}
use Rattle.wm_print.specs.Texts.{Answer}
use Rattle.wm_select.specs.Query.{answer_of}
use Rattle.wm_spec.specs.declared.record.space.Space.{Space}
use Rattle.wm_spec.specs.declared.record.table.Table.{Table}
use Rattle.wm_views.specs.declared.looking.Family.{Family}
use Rattle.wm_views.specs.declared.looking.Look.{Look}
use Rattle.wm_views.specs.declared.looking.Reading.{Reading}
use Rattle.wm_views.specs.declared.looking.Reading.TheVariants.{Version, Day}

abbrev pub family_view : Option Family → Option (Space × Space)
family_view None = None
family_view (Some f) = Some (f.space.now, f.parent.now)

abbrev pub reading_view : Reading → sources.Reading
reading_view (Version number) = sources.Version number
reading_view (Day date) = sources.Day date

abbrev pub look_view : Parts → Look → sources.Look
look_view p l = record {
  reading = reading_at p l.session.now.space l.session.now.stand;
  period = λ (t : Table). within l.moment l.session.now t;
  home = l.home.now;
  family = family_view l.family;
  difference = l.session.now.difference;
}

-- what the query answers over all that the sources show
pub record IsAnswered (p : Parts) (look : sources.Look) (tables : List Table) (query : Query) (answer : Answer) : Type 0 where
  pub listings : List Source
  pub listed : AreListed p look tables query.sources listings
  pub is : answer ≡ answer_rows (answer_of query listings)
