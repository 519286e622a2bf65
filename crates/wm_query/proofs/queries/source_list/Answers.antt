use Rattle.std.proofs.Common.{refl}
use Rattle.wm_syntax.specs.Views.{src_view, srcs_view}
use Rattle.wm_grammar.specs.QueryReaders.{source_list_at}
use Rattle.wm_grammar.proofs.Loops.{takes_one}
use Rattle.wm_grammar.proofs.QueryLaws.{next_source_exact}
use Rattle.wm_terms.proofs.Listing.{seen_push}
use Rattle.wm_query.proofs.Sources.{sources_on}
use Rattle.wm_query.proofs.queries.source_list.Goals as goal

pub items-smaller : goal.items-smaller
items-smaller c = takes_one (next_source_exact 64 c.items.room) refl c.items.cursor (src_view c.in_ok-next.next) c.next_source.new.cursor c.in_ok-next.ensures

pub items-preserved : goal.items-preserved
items-preserved c =
    sources_on c.items.room c.saturating_sub-room.result (srcs_view c.items.list.items) (srcs_view c.push-in-items.new.self.items) c.items.cursor c.next_source.new.cursor (source_list_at 64 c.args.aggregate c.args.cursor.now) (src_view c.in_ok-next.next)
    c.saturating_sub-room.ensures (seen_push src_view c.items.list.items c.push-in-items.new.self.items c.in_ok-next.next c.in_ok-push-2.ensures.items) c.items-test.ensures c.in_ok-next.ensures c.items.invariant
