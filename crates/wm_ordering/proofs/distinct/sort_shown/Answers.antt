use Rattle.std.proofs.Common.{List, Bool, rules}
use Rattle.std.proofs.lemmas.Fn.{always_returns_same}
use Rattle.std.proofs.lemmas.List.Sorted.{ranks_by}
use Rattle.std.specs.Cmp.{IsStrictWeakOrder}
use Rattle.wm_base.specs.declared.value.Value.{Value}
use Rattle.wm_ordering.specs.declared.shown.Shown.{Shown}
use Rattle.wm_ordering.specs.Sorting.{stands_before}
use Rattle.wm_ordering.specs.Orders.{left_to_right_total}
use Rattle.wm_ordering.proofs.SortLemmas.{sorted_is}
use Rattle.wm_ordering.proofs.distinct.sort_shown.Goals as goal

pub returns : goal.returns
returns c =
    let keys : Shown → List Value = λ row. row.row.values in
    let lt : Shown → Shown → Bool = stands_before keys in
    let ranks : IsStrictWeakOrder lt = ranks_by left_to_right_total keys in
    sorted_is lt ranks c.args.shown.now.items c.sort_by.new.self.items
    (c.in_ok-sort_by.ensures.sorted lt ranks (always_returns_same _ _ _ (λ a r f k. search rules)))
    (c.in_ok-sort_by.ensures.stable lt ranks (always_returns_same _ _ _ (λ a r f k. search rules)))
