use Rattle.std.proofs.Common.{subst, sym, rules, ◌∙◌}
use Rattle.std.proofs.lemmas.List.Sorted.{IsNonDecreasingBy-from_sort_by_key}
use Rattle.std.specs.List.Sorted.{IsNonDecreasingBy, IsPermutation}
use Rattle.wm_spec.specs.declared.record.stored.Stored.{Stored}
use Rattle.wm_image.proofs.load.in_order.Goals as goal

pub returns-clause-moved : goal.returns-clause-moved
returns-clause-moved c =
    subst (λ list. IsPermutation list c.from_vec.result) c.into_vec-list.ensures
    (subst (IsPermutation c.into_vec-list.result.items) (sym (c.from_vec.ensures ∙ c.shrink_to_fit.ensures.items)) c.in_ok-sort_by_key.ensures.permutation)

pub returns-clause-ordered : goal.returns-clause-ordered
returns-clause-ordered c =
    subst (IsNonDecreasingBy (λ (s : Stored). s.id)) (sym (c.from_vec.ensures ∙ c.shrink_to_fit.ensures.items))
    (IsNonDecreasingBy-from_sort_by_key (λ (s : Stored). s.id) c.sort_by_key.new.self.items c.in_ok-sort_by_key.ensures.sorted (λ a r f k. search rules))
