use Rattle.std.proofs.Common.{◌≡◌, ◌==◌, ℕ, drop, map}
use Rattle.std.specs.List.{find}
use Rattle.wm_points.specs.Points.{Point}
use Rattle.wm_differences.specs.Points.{point_view}
use Rattle.wm_differences.proofs.points.point_in.Given as goal

abbrev pub invariant-loop-point : goal.invariant-loop-point
invariant-loop-point l = find (λ (y : Point ℕ). y.space == l.space) (map point_view (drop l.point-index l.points)) ≡ find (λ (y : Point ℕ). y.space == l.space) (map point_view l.points)
