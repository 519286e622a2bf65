use Rattle.std.proofs.Common.{[], ◌∷◌, sym, ap, refl}
use Rattle.wm_syntax.specs.Trees.{Cond}
use Rattle.wm_syntax.specs.Views.{cond_view}
use Rattle.wm_grammar.specs.Sorts as sorts
use Rattle.wm_grammar.specs.Expressions.{alls, anys}
use Rattle.wm_grammar.specs.ExpressionReaders.{and_at, conj_at, or_at, cond_of_at, negation_at}
use Rattle.wm_grammar.proofs.Laws.{mark_exact, then_exact}
use Rattle.wm_grammar.proofs.ExpressionLaws.{negation_exact, conj_exact}
use Rattle.wm_grammar.proofs.Loops.{going_on, takes_one}
use Rattle.wm_conditions.proofs.conditions.+conditions.Goals as goal

pub conj-items-smaller : goal.conj-items-smaller
conj-items-smaller t c =
    takes_one (then_exact (mark_exact sorts.AND) (λ _. negation_exact c.args.depth) refl) refl c.items.cursor (cond_view c.in_ok-next.next.value) c.next_negation.new.cursor c.in_ok-next.ensures

pub conj-items-preserved : goal.conj-items-preserved
conj-items-preserved t c =
    going_on {S = Unit {0}} (λ s _. s) (λ _. sorts.AND ∷ []) (λ _. and_at (negation_at c.args.depth)) alls tt (cond_view c.items.all.value) c.items.cursor (conj_at (negation_at c.args.depth) c.args.cursor.now)
    (cond_view c.in_ok-next.next.value) c.next_negation.new.cursor (cond_view c.in_ok-made.made.value) (sym c.items-test.ensures) c.in_ok-next.ensures
    (takes_one (then_exact (mark_exact sorts.AND) (λ _. negation_exact c.args.depth) refl) refl c.items.cursor (cond_view c.in_ok-next.next.value) c.next_negation.new.cursor c.in_ok-next.ensures)
    (λ xs. ap (λ (k : Cond). alls k xs) (sym c.in_ok-made.ensures.ok)) c.items.invariant

pub cond_within-items-smaller : goal.cond_within-items-smaller
cond_within-items-smaller t c =
    takes_one (then_exact (mark_exact sorts.OR) (λ _. conj_exact (negation_exact c.args.depth)) refl) refl c.items.cursor (cond_view c.in_ok-next.next.value) c.next_conj.new.cursor c.in_ok-next.ensures

pub cond_within-items-preserved : goal.cond_within-items-preserved
cond_within-items-preserved t c =
    going_on {S = Unit {0}} (λ s _. s) (λ _. sorts.OR ∷ []) (λ _. or_at (negation_at c.args.depth)) anys tt (cond_view c.items.all.value) c.items.cursor (cond_of_at (negation_at c.args.depth) c.args.cursor.now)
    (cond_view c.in_ok-next.next.value) c.next_conj.new.cursor (cond_view c.in_ok-made.made.value) (sym c.items-test.ensures) c.in_ok-next.ensures
    (takes_one (then_exact (mark_exact sorts.OR) (λ _. conj_exact (negation_exact c.args.depth)) refl) refl c.items.cursor (cond_view c.in_ok-next.next.value) c.next_conj.new.cursor c.in_ok-next.ensures)
    (λ xs. ap (λ (k : Cond). anys k xs) (sym c.in_ok-made.ensures.ok)) c.items.invariant
