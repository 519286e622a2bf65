use Rattle.std.proofs.Common.{refl}
use Rattle.wm_grammar.specs.QueryReaders.{next_at, list_of_at, order_at}
use Rattle.wm_grammar.specs.Sorts as sorts
use Rattle.wm_grammar.proofs.Laws.{mark_exact, then_exact}
use Rattle.wm_grammar.proofs.Loops.{takes_one}
use Rattle.wm_grammar.proofs.QueryLaws.{order_exact}
use Rattle.wm_terms.proofs.Listing.{lists_on}
use Rattle.wm_query.proofs.queries.orders.Goals as goal

pub items-smaller : goal.items-smaller
items-smaller c = takes_one (then_exact (mark_exact sorts.COMMA) (λ _. order_exact) refl) refl c.items.cursor c.in_ok-next.next c.next_order.new.cursor c.in_ok-next.ensures

pub items-preserved : goal.items-preserved
items-preserved c =
    lists_on (next_at order_at) c.items.list.items c.push-in-items.new.self.items c.items.cursor c.next_order.new.cursor (list_of_at order_at c.args.cursor.now) c.in_ok-next.next c.in_ok-push-2.ensures.items c.items-test.ensures c.in_ok-next.ensures
    (takes_one (then_exact (mark_exact sorts.COMMA) (λ _. order_exact) refl) refl c.items.cursor c.in_ok-next.next c.next_order.new.cursor c.in_ok-next.ensures)
    c.items.invariant
