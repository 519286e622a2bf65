use Rattle.std.proofs.Common.{◌≡◌, drop, map}
use Rattle.wm_points.specs.Points.{meeting}
use Rattle.wm_differences.specs.Points.{point_view}
use Rattle.wm_differences.proofs.points.meeting.Given as goal

abbrev pub invariant-loop-one : goal.invariant-loop-one
invariant-loop-one l = meeting (map point_view (drop l.one-index l.first)) (map point_view l.second) ≡ meeting (map point_view l.first) (map point_view l.second)
