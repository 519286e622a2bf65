use Rattle.std.proofs.Common.{rules}
use Rattle.std.proofs.lemmas.Fn.{always_returns_same}
use Rattle.std.proofs.lemmas.List.Sorted.{ranks_by}
use Rattle.std.specs.Cmp.{IsStrictWeakOrder}
use Rattle.wm_base.specs.Orders.{span_order_total}
use Rattle.wm_base.specs.Period.{Span}
use Rattle.wm_ordering.proofs.SortLemmas.{sorted_is}
use Rattle.wm_dml.specs.Moving.{begins_before}
use Rattle.wm_dml.proofs.moving.sort_periods.Goals as goal

pub returns : goal.returns
returns c =
    let ranks : IsStrictWeakOrder begins_before = ranks_by span_order_total (λ (p : Span). p) in
    sorted_is begins_before ranks c.args.periods.now.items c.sort_by.new.self.items
    (c.in_ok-sort_by.ensures.sorted begins_before ranks (always_returns_same _ _ _ (λ a r f k. search rules)))
    (c.in_ok-sort_by.ensures.stable begins_before ranks (always_returns_same _ _ _ (λ a r f k. search rules)))
