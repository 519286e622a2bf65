use Rattle.std.proofs.Common.{refl}
use Rattle.wm_syntax.specs.Views.{out_view, outs_view}
use Rattle.wm_grammar.specs.QueryReaders.{next_at, list_of_at, out_at}
use Rattle.wm_grammar.specs.Sorts as sorts
use Rattle.wm_grammar.proofs.Laws.{mark_exact, then_exact}
use Rattle.wm_grammar.proofs.Loops.{takes_one}
use Rattle.wm_grammar.proofs.QueryLaws.{out_exact}
use Rattle.wm_terms.proofs.Listing.{lists_on, seen_push}
use Rattle.wm_query.proofs.queries.outs.Goals as goal

pub items-smaller : goal.items-smaller
items-smaller c = takes_one (then_exact (mark_exact sorts.COMMA) (λ _. (out_exact 64)) refl) refl c.items.cursor (out_view c.in_ok-next.next) c.next_out.new.cursor c.in_ok-next.ensures

pub items-preserved : goal.items-preserved
items-preserved c =
    lists_on (next_at (out_at 64)) (outs_view c.items.list.items) (outs_view c.push-in-items.new.self.items) c.items.cursor c.next_out.new.cursor (list_of_at (out_at 64) c.args.cursor.now) (out_view c.in_ok-next.next) (seen_push out_view c.items.list.items c.push-in-items.new.self.items c.in_ok-next.next c.in_ok-push-2.ensures.items) c.items-test.ensures c.in_ok-next.ensures
    (takes_one (then_exact (mark_exact sorts.COMMA) (λ _. (out_exact 64)) refl) refl c.items.cursor (out_view c.in_ok-next.next) c.next_out.new.cursor c.in_ok-next.ensures)
    c.items.invariant
