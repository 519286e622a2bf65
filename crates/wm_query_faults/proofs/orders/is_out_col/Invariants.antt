use Rattle.std.proofs.Common.{◌≡◌, drop}
use Rattle.std.specs.List.{list_any}
use Rattle.wm_syntax.specs.Trees.{Out}
use Rattle.wm_syntax.specs.Views.{outs_view}
use Rattle.wm_query_faults.specs.Items.{is_item_col}
use Rattle.wm_query_faults.proofs.orders.is_out_col.Given as goal

abbrev pub invariant-loop-out : goal.invariant-loop-out
invariant-loop-out l =
    list_any (λ (o : Out). is_item_col l.columns l.col o.item) (outs_view (drop l.out-index l.outs)) ≡ list_any (λ (o : Out). is_item_col l.columns l.col o.item) (outs_view l.outs)
