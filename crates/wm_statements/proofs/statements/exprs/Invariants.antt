use Rattle.std.proofs.Common.{length}
use Rattle.wm_syntax.specs.Views.{exprs_view}
use Rattle.wm_grammar.specs.QueryReaders.{next_at, list_of_at}
use Rattle.wm_grammar.specs.ExpressionReaders.{expr_at}
use Rattle.wm_terms.proofs.Listing.{Lists}
use Rattle.wm_statements.proofs.statements.exprs.Given as goal

abbrev pub invariant-items : goal.invariant-items
invariant-items l = Lists (next_at (expr_at 64)) (exprs_view l.list.items) l.cursor (list_of_at (expr_at 64) l.fn.cursor)

abbrev pub decreases-items : goal.decreases-items
decreases-items l = length l.cursor
