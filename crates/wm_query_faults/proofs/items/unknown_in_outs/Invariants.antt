use Rattle.std.proofs.Common.{◌≡◌, drop}
use Rattle.wm_syntax.specs.Views.{outs_view}
use Rattle.wm_query_faults.specs.Items.{unknown_in_outs}
use Rattle.wm_query_faults.proofs.items.unknown_in_outs.Given as goal

abbrev pub invariant-loop-out : goal.invariant-loop-out
invariant-loop-out l = unknown_in_outs l.columns l.grouped l.groups (outs_view (drop l.out-index l.outs)) ≡ unknown_in_outs l.columns l.grouped l.groups (outs_view l.outs)
