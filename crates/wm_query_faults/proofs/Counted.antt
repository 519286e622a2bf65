-- Items of a query, counted where they lie.
use Rattle.std.proofs.Common.{◌≡◌, ◌+◌, Bool, cond, List, [], ◌∷◌, refl, ap, sym, ◌∙◌}
use Rattle.std.proofs.lemmas.List.Sums.{sum_by-cons}
use Rattle.std.specs.List.{count_by}
use Rattle.wm_syntax.specs.Trees.{Out}
use Rattle.wm_syntax.specs.Views.{out_view, outs_view}
use Rattle.wm_syntax.specs.declared.query.Out.{Out as OutNode}

-- how many of them pass a test
pub count_viewed : (test : Out → Bool) (outs : List OutNode) → count_by (λ out. test (out_view out)) outs ≡ count_by test (outs_view outs)
count_viewed test [] = refl
count_viewed test (out ∷ outs) =
    sum_by-cons (λ o. cond (test (out_view o)) 1 0) out outs
    ∙ ap (λ n. cond (test (out_view out)) 1 0 + n) (count_viewed test outs)
    ∙ sym (sum_by-cons (λ o. cond (test o) 1 0) (out_view out) (outs_view outs))
