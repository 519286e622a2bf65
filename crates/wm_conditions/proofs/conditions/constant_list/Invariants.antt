use Rattle.std.proofs.Common.{length, [], ◌∷◌, ◌++◌}
use Rattle.wm_grammar.specs.Sorts as sorts
use Rattle.wm_grammar.specs.ExpressionReaders.{next_constant_at, constant_list_at}
use Rattle.wm_grammar.proofs.Loops.{Going}
use Rattle.wm_conditions.proofs.conditions.constant_list.Given as goal

abbrev pub invariant-items : goal.invariant-items
invariant-items l =
    Going {S = Unit {0}} (λ s _. s) (λ _. sorts.COMMA ∷ []) (λ _. next_constant_at) (λ kept xs. kept ++ xs) tt l.list.items l.cursor (constant_list_at l.fn.cursor)

abbrev pub decreases-items : goal.decreases-items
decreases-items l = length l.cursor
