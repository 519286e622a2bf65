use Rattle.std.proofs.Common.{length}
use Rattle.wm_syntax.specs.Views.{srcs_view}
use Rattle.wm_grammar.specs.QueryReaders.{source_list_at}
use Rattle.wm_query.proofs.Sources.{Sources}
use Rattle.wm_query.proofs.queries.source_list.Given as goal

abbrev pub invariant-items : goal.invariant-items
invariant-items l = Sources l.room (srcs_view l.list.items) l.cursor (source_list_at 64 l.fn.aggregate l.fn.cursor)

abbrev pub decreases-items : goal.decreases-items
decreases-items l = length l.cursor
