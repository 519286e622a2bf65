use Rattle.std.proofs.Common.{◌≡◌, drop}
use Rattle.wm_syntax.specs.Views.{srcs_view}
use Rattle.wm_query_faults.specs.Lacking.{lacking_in_sources}
use Rattle.wm_query_faults.proofs.lacking_parts.lacking_in_sources.Given as goal

abbrev pub invariant-loop-source : goal.invariant-loop-source
invariant-loop-source l = lacking_in_sources l.columns (srcs_view (drop l.source-index l.sources)) ≡ lacking_in_sources l.columns (srcs_view l.sources)
