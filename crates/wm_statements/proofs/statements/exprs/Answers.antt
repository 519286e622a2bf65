use Rattle.std.proofs.Common.{refl}
use Rattle.wm_syntax.specs.Views.{expr_view, exprs_view}
use Rattle.wm_grammar.specs.QueryReaders.{next_at, list_of_at}
use Rattle.wm_grammar.specs.ExpressionReaders.{expr_at}
use Rattle.wm_grammar.specs.Sorts as sorts
use Rattle.wm_grammar.proofs.Laws.{mark_exact, then_exact}
use Rattle.wm_grammar.proofs.Loops.{takes_one}
use Rattle.wm_grammar.proofs.ExpressionLaws.{expr_exact}
use Rattle.wm_terms.proofs.Listing.{lists_on, seen_push}
use Rattle.wm_statements.proofs.statements.exprs.Goals as goal

pub items-smaller : goal.items-smaller
items-smaller c = takes_one (then_exact (mark_exact sorts.COMMA) (λ _. (expr_exact 64)) refl) refl c.items.cursor (expr_view c.in_ok-next.next) c.next_expr.new.cursor c.in_ok-next.ensures

pub items-preserved : goal.items-preserved
items-preserved c =
    lists_on (next_at (expr_at 64)) (exprs_view c.items.list.items) (exprs_view c.push-in-items.new.self.items) c.items.cursor c.next_expr.new.cursor (list_of_at (expr_at 64) c.args.cursor.now) (expr_view c.in_ok-next.next) (seen_push expr_view c.items.list.items c.push-in-items.new.self.items c.in_ok-next.next c.in_ok-push-2.ensures.items) c.items-test.ensures c.in_ok-next.ensures
    (takes_one (then_exact (mark_exact sorts.COMMA) (λ _. (expr_exact 64)) refl) refl c.items.cursor (expr_view c.in_ok-next.next) c.next_expr.new.cursor c.in_ok-next.ensures)
    c.items.invariant
