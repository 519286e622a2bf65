use Rattle.std.proofs.Common.{List, Bool, rules}
use Rattle.std.proofs.lemmas.Fn.{always_returns_same}
use Rattle.std.proofs.lemmas.List.Sorted.{ranks_by}
use Rattle.std.specs.Cmp.{IsStrictWeakOrder}
use Rattle.wm_base.specs.declared.value.Value.{Value}
use Rattle.wm_ordering.specs.declared.keyed.Keyed.{Keyed}
use Rattle.wm_ordering.specs.Sorting.{goes_by}
use Rattle.wm_ordering.proofs.SortLemmas.{by_directions_total, sorted_is}
use Rattle.wm_ordering.proofs.order.sort_directed.Goals as goal

pub returns : goal.returns
returns c =
    let keys : Keyed → List Value = λ row. row.keys in
    let lt : Keyed → Keyed → Bool = goes_by c.args.directions.now keys in
    let ranks : IsStrictWeakOrder lt = ranks_by (by_directions_total c.args.directions.now) keys in
    sorted_is lt ranks c.args.rows.now.items c.sort_by.new.self.items
    (c.in_ok-sort_by.ensures.sorted lt ranks (always_returns_same _ _ _ (λ a r f k. search rules)))
    (c.in_ok-sort_by.ensures.stable lt ranks (always_returns_same _ _ _ (λ a r f k. search rules)))
