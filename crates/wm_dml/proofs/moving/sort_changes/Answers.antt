use Rattle.std.proofs.Common.{rules}
use Rattle.std.proofs.lemmas.Cmp.{nat_cmp_total, on_total, then_total}
use Rattle.std.proofs.lemmas.Fn.{always_returns_same}
use Rattle.std.proofs.lemmas.List.Sorted.{ranks_by}
use Rattle.std.specs.Cmp.{IsStrictWeakOrder}
use Rattle.wm_base.specs.Orders.{key_order_total}
use Rattle.wm_ordering.proofs.SortLemmas.{sorted_is}
use Rattle.wm_dml.specs.Moving.{goes_before}
use Rattle.wm_dml.specs.declared.change.RowChange.{RowChange}
use Rattle.wm_dml.proofs.moving.sort_changes.Goals as goal

pub returns : goal.returns
returns c =
    let ranks : IsStrictWeakOrder goes_before = ranks_by (then_total (on_total (λ (x : RowChange). x.key) key_order_total) (on_total (λ (x : RowChange). x.period.from) nat_cmp_total)) (λ (x : RowChange). x) in
    sorted_is goes_before ranks c.args.changes.now.items c.sort_by.new.self.items
    (c.in_ok-sort_by.ensures.sorted goes_before ranks (always_returns_same _ _ _ (λ a r f k. search rules)))
    (c.in_ok-sort_by.ensures.stable goes_before ranks (always_returns_same _ _ _ (λ a r f k. search rules)))
