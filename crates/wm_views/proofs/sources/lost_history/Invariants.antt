use Rattle.std.proofs.Common.{◌≡◌, drop}
use Rattle.wm_syntax.specs.Views.{srcs_view}
use Rattle.wm_model.specs.Planning.{tables_in}
use Rattle.wm_model.specs.Step.{lost_history}
use Rattle.wm_views.proofs.sources.lost_history.Given as goal

abbrev pub invariant-loop-source : goal.invariant-loop-source
invariant-loop-source l = lost_history (tables_in l.image) (srcs_view l.sources) ≡ lost_history (tables_in l.image) (srcs_view (drop l.source-index l.sources))
