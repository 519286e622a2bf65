use Rattle.std.proofs.Common.{◌≡◌, drop}
use Rattle.wm_syntax.specs.Views.{outs_view}
use Rattle.wm_query_faults.specs.Asking.{mistyped_in_outs}
use Rattle.wm_query_faults.proofs.asking.mistyped_in_outs.Given as goal

abbrev pub invariant-loop-out : goal.invariant-loop-out
invariant-loop-out l = mistyped_in_outs l.columns (outs_view (drop l.out-index l.outs)) ≡ mistyped_in_outs l.columns (outs_view l.outs)
