use Rattle.std.proofs.Common.{◌≡◌, [], drop}
use Rattle.wm_syntax.specs.Views.{srcs_view}
use Rattle.wm_query_faults.specs.Lacking.{last_table}
use Rattle.wm_query_faults.proofs.meant.last_table.Given as goal

abbrev pub invariant-loop-source : goal.invariant-loop-source
invariant-loop-source l = last_table l.table (srcs_view (drop l.source-index l.sources)) ≡ last_table [] (srcs_view l.sources)
