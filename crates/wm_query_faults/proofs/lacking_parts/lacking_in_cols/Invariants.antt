use Rattle.std.proofs.Common.{◌≡◌, drop}
use Rattle.wm_query_faults.specs.Lacking.{lacking_in_cols}
use Rattle.wm_query_faults.proofs.lacking_parts.lacking_in_cols.Given as goal

abbrev pub invariant-loop-col : goal.invariant-loop-col
invariant-loop-col l = lacking_in_cols l.columns (drop l.col-index l.cols) ≡ lacking_in_cols l.columns l.cols
