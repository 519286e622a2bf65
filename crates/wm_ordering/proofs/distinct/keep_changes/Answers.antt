use Rattle.std.proofs.Common.{List, rules, ◌∙◌}
use Rattle.std.proofs.lemmas.Fn.{dedup_same}
use Rattle.wm_base.specs.declared.value.Value.{Value}
use Rattle.wm_ordering.specs.declared.shown.Shown.{Shown}
use Rattle.wm_ordering.specs.Sorting.{has_values_of}
use Rattle.wm_ordering.proofs.KeyLemmas.{dedup_changes}
use Rattle.wm_ordering.proofs.distinct.keep_changes.Goals as goal

pub returns : goal.returns
returns c =
    let values : Shown → List Value = λ s. s.row.values in
    dedup_same _ (λ later kept. has_values_of values kept later) _ (λ x y b f' x' y' k. search rules) _ _ c.dedup_by.ensures.filtered
    ∙ dedup_changes (has_values_of values) c.args.shown.now.items
