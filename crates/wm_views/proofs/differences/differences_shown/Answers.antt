use Rattle.std.proofs.Common.{Some, None, sym, ap, ◌∙◌}
use Rattle.std.specs.Option.{option_map}
use Rattle.wm_differences.specs.Shown.{versions_of as given_versions}
use Rattle.wm_differences.specs.declared.shown.Versions.{Versions}
use Rattle.wm_graph.specs.Parts.{parts_of}
use Rattle.wm_model.specs.Step.{viewpoint_name}
use Rattle.wm_state.specs.State.{Difference}
use Rattle.wm_views.proofs.Pointing.{differences_seen, none_set, none_there}
use Rattle.wm_views.proofs.differences.differences_shown.Goals as goal

pub returns-in_default : goal.returns-in_default
returns-in_default c = none_set (parts_of c.args.image.now) c.args.table.now c.args.session.now.difference c.new.result c.in_default.ensures c.new.ensures

pub returns-in_default-2 : goal.returns-in_default-2
returns-in_default-2 c =
    none_there (parts_of c.args.image.now) c.args.table.now c.args.session.now.difference c.in-Some.points.now c.new-in_default-2.result c.in-Some.ensures (ap (option_map given_versions) (sym c.in_default-2.is) ∙ c.in_ok-versions.ensures) c.new-in_default-2.ensures

pub returns : goal.returns
returns c =
    differences_seen (parts_of c.args.image.now) c.args.table.now c.args.session.now.difference c.in-Some.points.now c.in-Some-2.versions c.in_ok-first.first c.in_ok-second.second c.difference_view.result c.in-Some.ensures
    (ap (option_map given_versions) (sym c.in-Some-2.is) ∙ c.in_ok-versions.ensures) (c.in_ok-first.ensures ∙ ap (λ (d : Difference). viewpoint_name d.first) c.points.view_is) (c.in_ok-second.ensures ∙ ap (λ (d : Difference). viewpoint_name d.second) c.points.view_is) c.difference_view.ensures
