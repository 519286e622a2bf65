use Rattle.std.proofs.Common.{◌≡◌, drop}
use Rattle.wm_query_faults.specs.Items.{unknown_in_cols}
use Rattle.wm_query_faults.proofs.items.unknown_in_cols.Given as goal

abbrev pub invariant-loop-col : goal.invariant-loop-col
invariant-loop-col l = unknown_in_cols l.columns (drop l.col-index l.cols) ≡ unknown_in_cols l.columns l.cols
