use Rattle.std.proofs.Common.{◌≡◌, drop}
use Rattle.std.specs.List.{list_any}
use Rattle.wm_syntax.specs.Views.{srcs_view}
use Rattle.wm_calls.specs.Empty.{src_has_empty}
use Rattle.wm_calls.proofs.empty.any_source.Given as goal

abbrev pub invariant-loop-source : goal.invariant-loop-source
invariant-loop-source l = list_any src_has_empty (srcs_view l.sources) ≡ list_any src_has_empty (srcs_view (drop l.source-index l.sources))
