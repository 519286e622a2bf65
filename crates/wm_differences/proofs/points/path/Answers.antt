use Rattle.std.proofs.Common.{[], ◌∷◌, map, ap, ◌∙◌}
use Rattle.std.proofs.lemmas.List.{map-append}
use Rattle.wm_graph.specs.Parts.{parts_of}
use Rattle.wm_points.specs.Points.{path}
use Rattle.wm_points.specs.Recorded.{climb_by}
use Rattle.wm_differences.specs.Points.{point_view}
use Rattle.wm_differences.proofs.Onward.{path_more}
use Rattle.wm_differences.proofs.points.path.Goals as goal

pub loop-preserved : goal.loop-preserved
loop-preserved c =
    path_more (climb_by (parts_of c.args.image.now)) c.args.point.space c.loop.counter (point_view c.loop.last) (point_view c.in-Some.above) (map point_view c.loop.points.items) (map point_view c.push-in-loop.new.self.items)
    (path (climb_by (parts_of c.args.image.now)) c.args.point.space (point_view c.args.point)) c.loop-test.true c.in-Some.ensures (ap (map point_view) c.in_ok-push-2.ensures.items ∙ map-append point_view c.loop.points.items (c.in-Some.above ∷ []))
    c.loop.invariant
