use Rattle.std.proofs.Common.{◌≡◌, drop}
use Rattle.wm_syntax.specs.Views.{srcs_view}
use Rattle.wm_query_faults.specs.Lacking.{table_of}
use Rattle.wm_query_faults.proofs.meant.table_of.Given as goal

abbrev pub invariant-loop-source : goal.invariant-loop-source
invariant-loop-source l = table_of l.name (srcs_view (drop l.source-index l.sources)) ≡ table_of l.name (srcs_view l.sources)
