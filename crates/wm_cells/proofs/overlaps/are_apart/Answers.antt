use Rattle.std.proofs.Common.{rules, ap, ◌∙◌}
use Rattle.std.proofs.lemmas.Fn.{always_returns_same}
use Rattle.std.specs.List.Sorted.{IsPermutation, IsSortedBy}
use Rattle.wm_cells.proofs.Apart.{beginning_order_total, sorted_tell}
use Rattle.wm_cells.proofs.Rising.{stands_before, stands_before_ranks}
use Rattle.wm_cells.specs.Lookups.{referred}
use Rattle.wm_cells.specs.Order.{beginning_order, neighbours_differ, overlap}
use Rattle.wm_cells.proofs.overlaps.are_apart.Goals as goal

pub returns : goal.returns
returns g c =
    let group = g.T.Ordered.order_of in
    let cells = g.T.Lasting.cells_of in
    let total = g.T.Ordered.total in
    let order = beginning_order group cells in
    let moved : IsPermutation c.args.items.now c.sort_by.new.self.items = rw (← c.in_ok-sorted.ensures.items) c.in_ok-sort_by.ensures.permutation in
    let up : IsSortedBy (stands_before order) c.sort_by.new.self.items =
    c.in_ok-sort_by.ensures.sorted (stands_before order) (stands_before_ranks order (beginning_order_total group cells total)) (always_returns_same _ _ _ (λ a r f k. search rules)) in
    c.neighbours_agree-apart.ensures ∙ ap (λ l. neighbours_differ (overlap group cells) (referred l)) c.as_slice.ensures.value ∙ sorted_tell group cells total c.args.items.now c.sort_by.new.self.items moved up c.requires
