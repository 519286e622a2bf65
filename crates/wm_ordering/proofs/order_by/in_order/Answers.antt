use Rattle.std.proofs.Common.{◌≡◌, ◌==◌, true, List, length, sym, ap, ◌∙◌}
use Rattle.wm_syntax.specs.Views.{query_view}
use Rattle.wm_syntax.specs.declared.query.Order.{Order}
use Rattle.wm_ordering.proofs.KeyLemmas.{unordered_shown}
use Rattle.wm_ordering.proofs.order_by.in_order.Goals as goal

pub returns-then-is_empty : goal.returns-then-is_empty
returns-then-is_empty c =
    let none : (length (query_view c.args.query.now).orders == 0) ≡ true = ap (λ (os : List Order). length os == 0) (sym c.as_slice.ensures) ∙ sym c.is_empty.ensures ∙ c.if-is_empty.true in
    c.from_vec.ensures ∙ c.in_ok-rows.ensures ∙ sym (unordered_shown (query_view c.args.query.now) c.args.columns.now c.args.shown.items none)
