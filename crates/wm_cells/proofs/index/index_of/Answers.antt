use Rattle.std.proofs.Common.{◌≡◌, is_some, sym, ap, ◌∙◌}
use Rattle.wm_cells.proofs.Finding.{some_mapped, turn_more, turn_again}
use Rattle.wm_chunks.specs.Numbers.{value_at}
use Rattle.wm_cells.proofs.index.index_of.Goals as goal
use Rattle.wm_cells.proofs.index.index_of.Goals.{then-is_some, else-is_some+in_ok-insert}

pub loop-item-preserved : goal.loop-item-preserved
loop-item-preserved g c =
    let has : is_some (value_at c.loop-item.index.entries c.number-number.result) ≡ c.is_some.result = ap is_some (sym c.get.ensures) ∙ some_mapped _ c.get.result ∙ sym c.is_some.ensures in
    elim c.if-is_some.branch [
      | then-is_some w ↦
          rw (w.index-is, w.differ-is)
          (turn_again _ c.args.items.now c.loop-item.item-index c.loop-item.index.entries _ c.number-number.result c.item-item.result c.loop-item-test.true c.item-item.is c.loop-item.invariant c.number-number.ensures (has ∙ w.if-is_some.true))
      | else-is_some+in_ok-insert w ↦
          rw (w.index-is, w.differ-is)
          (turn_more _ c.args.items.now c.loop-item.item-index c.loop-item.index.entries _ _ c.number-number.result c.item-item.result c.loop-item-test.true c.item-item.is c.loop-item.invariant c.number-number.ensures (has ∙ w.if-is_some.false) w.in_ok-insert.ensures.sets)
    ]
