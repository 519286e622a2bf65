use Rattle.std.proofs.Common.{length}
use Rattle.wm_grammar.specs.QueryReaders.{next_at, list_of_at}
use Rattle.wm_grammar.specs.OperandReaders.{column_at}
use Rattle.wm_terms.proofs.Listing.{Lists}
use Rattle.wm_query.proofs.queries.columns.Given as goal

abbrev pub invariant-items : goal.invariant-items
invariant-items l = Lists (next_at column_at) l.list.items l.cursor (list_of_at column_at l.fn.cursor)

abbrev pub decreases-items : goal.decreases-items
decreases-items l = length l.cursor
