use Rattle.std.proofs.Common.{◌≡◌, drop}
use Rattle.wm_syntax.specs.Views.{srcs_view}
use Rattle.wm_ground.specs.Grounds.{outline_on}
use Rattle.wm_model.specs.Step.{first_lost, workspace_lost}
use Rattle.wm_views.proofs.lost.lost_workspace.Given as goal

abbrev pub invariant-loop-source : goal.invariant-loop-source
invariant-loop-source l =
    first_lost (workspace_lost (outline_on l.ground) l.session) (srcs_view l.sources) ≡ first_lost (workspace_lost (outline_on l.ground) l.session) (srcs_view (drop l.source-index l.sources))
