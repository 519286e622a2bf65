use Rattle.std.proofs.Common.{◌+◌, ◌*◌, length, [], ◌∷◌}
use Rattle.wm_syntax.specs.Views.{expr_view}
use Rattle.wm_grammar.specs.Sorts as sorts
use Rattle.wm_grammar.specs.Expressions.{products, sums}
use Rattle.wm_grammar.specs.ExpressionReaders.{times_at, term_at, signed_term_at, expr_of_at, factor_at}
use Rattle.wm_grammar.proofs.Loops.{Going}
use Rattle.wm_arithmetic.proofs.expressions.+expressions.Given as goal

abbrev pub decreases-factor : goal.decreases-factor
decreases-factor l = 5 * l.depth

abbrev pub decreases-times : goal.decreases-times
decreases-times l = 5 * l.depth + 1

abbrev pub decreases-term : goal.decreases-term
decreases-term l = 5 * l.depth + 2

abbrev pub decreases-signed_term : goal.decreases-signed_term
decreases-signed_term l = 5 * l.depth + 3

abbrev pub decreases-expr_within : goal.decreases-expr_within
decreases-expr_within l = 5 * l.depth + 4

abbrev pub invariant-term-items : goal.invariant-term-items
invariant-term-items l =
    Going {S = Unit {0}} (λ s _. s) (λ _. sorts.STAR ∷ []) (λ _. times_at (factor_at l.depth)) products tt (expr_view l.all) l.cursor (term_at (factor_at l.depth) l.fn.cursor)

abbrev pub decreases-term-items : goal.decreases-term-items
decreases-term-items l = length l.cursor

abbrev pub invariant-expr_within-items : goal.invariant-expr_within-items
invariant-expr_within-items l =
    Going {S = Unit {0}} (λ s _. s) (λ _. sorts.PLUS ∷ sorts.MINUS ∷ []) (λ _. signed_term_at (factor_at l.depth)) sums tt (expr_view l.all) l.cursor (expr_of_at (factor_at l.depth) l.fn.cursor)

abbrev pub decreases-expr_within-items : goal.decreases-expr_within-items
decreases-expr_within-items l = length l.cursor
