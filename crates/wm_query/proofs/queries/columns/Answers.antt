use Rattle.std.proofs.Common.{refl}
use Rattle.wm_grammar.specs.QueryReaders.{next_at, list_of_at}
use Rattle.wm_grammar.specs.OperandReaders.{column_at}
use Rattle.wm_grammar.specs.Sorts as sorts
use Rattle.wm_grammar.proofs.Laws.{mark_exact, then_exact}
use Rattle.wm_grammar.proofs.Loops.{takes_one}
use Rattle.wm_grammar.proofs.OperandLaws.{column_exact}
use Rattle.wm_terms.proofs.Listing.{lists_on}
use Rattle.wm_query.proofs.queries.columns.Goals as goal

pub items-smaller : goal.items-smaller
items-smaller c = takes_one (then_exact (mark_exact sorts.COMMA) (λ _. column_exact) refl) refl c.items.cursor c.in_ok-next.next c.next_column.new.cursor c.in_ok-next.ensures

pub items-preserved : goal.items-preserved
items-preserved c =
    lists_on (next_at column_at) c.items.list.items c.push-in-items.new.self.items c.items.cursor c.next_column.new.cursor (list_of_at column_at c.args.cursor.now) c.in_ok-next.next c.in_ok-push-2.ensures.items c.items-test.ensures c.in_ok-next.ensures
    (takes_one (then_exact (mark_exact sorts.COMMA) (λ _. column_exact) refl) refl c.items.cursor c.in_ok-next.next c.next_column.new.cursor c.in_ok-next.ensures)
    c.items.invariant
