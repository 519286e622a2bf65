use Rattle.std.proofs.Common.{◌+◌, ◌*◌, length, [], ◌∷◌}
use Rattle.wm_syntax.specs.Views.{cond_view}
use Rattle.wm_grammar.specs.Sorts as sorts
use Rattle.wm_grammar.specs.Expressions.{alls, anys}
use Rattle.wm_grammar.specs.ExpressionReaders.{and_at, conj_at, or_at, cond_of_at, negation_at}
use Rattle.wm_grammar.proofs.Loops.{Going}
use Rattle.wm_conditions.proofs.conditions.+conditions.Given as goal

abbrev pub decreases-negation : goal.decreases-negation
decreases-negation l = 5 * l.depth

abbrev pub decreases-next_negation : goal.decreases-next_negation
decreases-next_negation l = 5 * l.depth + 1

abbrev pub decreases-conj : goal.decreases-conj
decreases-conj l = 5 * l.depth + 2

abbrev pub decreases-next_conj : goal.decreases-next_conj
decreases-next_conj l = 5 * l.depth + 3

abbrev pub decreases-cond_within : goal.decreases-cond_within
decreases-cond_within l = 5 * l.depth + 4

abbrev pub invariant-conj-items : goal.invariant-conj-items
invariant-conj-items l =
    Going {S = Unit {0}} (λ s _. s) (λ _. sorts.AND ∷ []) (λ _. and_at (negation_at l.depth)) alls tt (cond_view l.all.value) l.cursor (conj_at (negation_at l.depth) l.fn.cursor)

abbrev pub decreases-conj-items : goal.decreases-conj-items
decreases-conj-items l = length l.cursor

abbrev pub invariant-cond_within-items : goal.invariant-cond_within-items
invariant-cond_within-items l =
    Going {S = Unit {0}} (λ s _. s) (λ _. sorts.OR ∷ []) (λ _. or_at (negation_at l.depth)) anys tt (cond_view l.all.value) l.cursor (cond_of_at (negation_at l.depth) l.fn.cursor)

abbrev pub decreases-cond_within-items : goal.decreases-cond_within-items
decreases-cond_within-items l = length l.cursor
