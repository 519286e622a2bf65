use Rattle.std.proofs.Common.{[], ◌∷◌, sym, ap, refl}
use Rattle.wm_syntax.specs.Trees.{Expr}
use Rattle.wm_syntax.specs.Views.{expr_view}
use Rattle.wm_grammar.specs.Sorts as sorts
use Rattle.wm_grammar.specs.Expressions.{products, sums}
use Rattle.wm_grammar.specs.ExpressionReaders.{times_at, term_at, signed_term_at, expr_of_at, factor_at}
use Rattle.wm_grammar.proofs.Laws.{mark_exact, then_exact}
use Rattle.wm_grammar.proofs.ExpressionLaws.{factor_exact, signed_term_exact}
use Rattle.wm_grammar.proofs.Loops.{going_on, takes_one}
use Rattle.wm_arithmetic.proofs.expressions.+expressions.Goals as goal

pub term-items-smaller : goal.term-items-smaller
term-items-smaller t c =
    takes_one (then_exact (mark_exact sorts.STAR) (λ _. factor_exact c.args.depth) refl) refl c.items.cursor (expr_view c.in-Ok.next) c.times.new.cursor c.in-Ok.ensures

pub term-items-preserved : goal.term-items-preserved
term-items-preserved t c =
    going_on {S = Unit {0}} (λ s _. s) (λ _. sorts.STAR ∷ []) (λ _. times_at (factor_at c.args.depth)) products tt (expr_view c.items.all) c.items.cursor (term_at (factor_at c.args.depth) c.args.cursor.now)
    (expr_view c.in-Ok.next) c.times.new.cursor (expr_view c.in_ok-made.made) (sym c.items-test.ensures) c.in-Ok.ensures
    (takes_one (then_exact (mark_exact sorts.STAR) (λ _. factor_exact c.args.depth) refl) refl c.items.cursor (expr_view c.in-Ok.next) c.times.new.cursor c.in-Ok.ensures)
    (λ xs. ap (λ (k : Expr). products k xs) (sym c.in_ok-made.ensures.ok)) c.items.invariant

pub expr_within-items-smaller : goal.expr_within-items-smaller
expr_within-items-smaller t c =
    takes_one (signed_term_exact (factor_exact c.args.depth)) refl c.items.cursor (c.in-Ok.read.0, expr_view c.in-Ok.read.1) c.signed_term.new.cursor c.in-Ok.ensures

pub expr_within-items-preserved : goal.expr_within-items-preserved
expr_within-items-preserved t c =
    going_on {S = Unit {0}} (λ s _. s) (λ _. sorts.PLUS ∷ sorts.MINUS ∷ []) (λ _. signed_term_at (factor_at c.args.depth)) sums tt (expr_view c.items.all) c.items.cursor (expr_of_at (factor_at c.args.depth) c.args.cursor.now)
    (c.in-Ok.read.0, expr_view c.in-Ok.read.1) c.signed_term.new.cursor (expr_view c.in_ok-made.made) (sym c.items-test.ensures) c.in-Ok.ensures
    (takes_one (signed_term_exact (factor_exact c.args.depth)) refl c.items.cursor (c.in-Ok.read.0, expr_view c.in-Ok.read.1) c.signed_term.new.cursor c.in-Ok.ensures)
    (λ xs. ap (λ (k : Expr). sums k xs) (sym c.in_ok-made.ensures.ok)) c.items.invariant
