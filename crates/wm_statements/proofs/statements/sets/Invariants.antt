use Rattle.std.proofs.Common.{length}
use Rattle.wm_syntax.specs.Views.{sets_view}
use Rattle.wm_grammar.specs.QueryReaders.{next_at, list_of_at}
use Rattle.wm_grammar.specs.StatementReaders.{set_at}
use Rattle.wm_terms.proofs.Listing.{Lists}
use Rattle.wm_statements.proofs.statements.sets.Given as goal

abbrev pub invariant-items : goal.invariant-items
invariant-items l = Lists (next_at (set_at 64)) (sets_view l.list.items) l.cursor (list_of_at (set_at 64) l.fn.cursor)

abbrev pub decreases-items : goal.decreases-items
decreases-items l = length l.cursor
