use Rattle.std.proofs.Common.{◌≡◌, drop}
use Rattle.wm_syntax.specs.Views.{outs_view}
use Rattle.wm_query_faults.specs.Lacking.{lacking_in_outs}
use Rattle.wm_query_faults.proofs.lacking_parts.lacking_in_outs.Given as goal

abbrev pub invariant-loop-out : goal.invariant-loop-out
invariant-loop-out l = lacking_in_outs l.columns (outs_view (drop l.out-index l.outs)) ≡ lacking_in_outs l.columns (outs_view l.outs)
