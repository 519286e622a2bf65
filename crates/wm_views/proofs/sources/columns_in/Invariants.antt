use Rattle.std.proofs.Common.{◌≡◌, ◌++◌, drop}
use Rattle.wm_syntax.specs.Views.{srcs_view}
use Rattle.wm_model.specs.Planning.{tables_in}
use Rattle.wm_model.specs.Step.{columns_in}
use Rattle.wm_views.proofs.sources.columns_in.Given as goal

abbrev pub invariant-loop-source : goal.invariant-loop-source
invariant-loop-source l = columns_in (tables_in l.image) (srcs_view l.sources) ≡ l.columns.items ++ columns_in (tables_in l.image) (srcs_view (drop l.source-index l.sources))
