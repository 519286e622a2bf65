use Rattle.std.proofs.Common.{length, [], ◌∷◌, ◌++◌}
use Rattle.wm_grammar.specs.Sorts as sorts
use Rattle.wm_grammar.specs.Statements.{keyed_by}
use Rattle.wm_grammar.specs.StatementReaders.{next_item_at, create_items_at}
use Rattle.wm_grammar.proofs.Loops.{Going}
use Rattle.wm_statements.proofs.statements.create_items.Given as goal

abbrev pub invariant-items : goal.invariant-items
invariant-items l = Going keyed_by (λ _. sorts.COMMA ∷ []) next_item_at (λ kept xs. kept ++ xs) l.keyed l.list.items l.cursor (create_items_at l.fn.cursor)

abbrev pub decreases-items : goal.decreases-items
decreases-items l = length l.cursor
