use Rattle.std.proofs.Common.{ap, ◌∙◌}
use Rattle.wm_graph.specs.Parts.{parts_of}
use Rattle.wm_model.specs.Sources.{versions_of}
use Rattle.wm_state.specs.State.{Difference}
use Rattle.wm_views.proofs.Pointing.{both_there, no_first, no_second}
use Rattle.wm_views.proofs.differences.versions_of.Goals as goal

pub returns-in_default : goal.returns-in_default
returns-in_default c =
    let d : Difference = record { first = c.points.inside.first; second = c.points.inside.second } in
    no_first (parts_of c.args.image.now) d c.in_default.ensures ∙ ap (versions_of (parts_of c.args.image.now)) c.points.view_is

pub returns-in_default-point_of : goal.returns-in_default-point_of
returns-in_default-point_of c =
    let d : Difference = record { first = c.points.inside.first; second = c.points.inside.second } in
    no_second (parts_of c.args.image.now) d c.in-Some.first c.in-Some.ensures c.in_default-point_of.ensures ∙ ap (versions_of (parts_of c.args.image.now)) c.points.view_is

pub returns : goal.returns
returns c =
    let d : Difference = record { first = c.points.inside.first; second = c.points.inside.second } in
    both_there (parts_of c.args.image.now) d c.in-Some.first c.in-Some-point_of.second c.in_ok-base.base c.in-Some.ensures c.in-Some-point_of.ensures c.in_ok-base.ensures ∙ ap (versions_of (parts_of c.args.image.now)) c.points.view_is
