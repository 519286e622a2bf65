use Rattle.std.proofs.Common.{◌≡◌, ◌-◌, ◌++◌, map}
use Rattle.wm_graph.specs.Parts.{parts_of}
use Rattle.wm_points.specs.Points.{path}
use Rattle.wm_points.specs.Recorded.{climb_by}
use Rattle.wm_differences.specs.Points.{point_view}
use Rattle.wm_differences.proofs.Onward.{onward}
use Rattle.wm_differences.proofs.points.path.Given as goal

abbrev pub invariant-loop : goal.invariant-loop
invariant-loop l =
    map point_view l.points.items ++ onward (climb_by (parts_of l.image)) (l.fn.point.space - l.counter) (point_view l.last)
    ≡ path (climb_by (parts_of l.image)) l.fn.point.space (point_view l.fn.point)
