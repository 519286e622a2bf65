-- Points of workspaces as they are handled.
use Rattle.std.specs.Prelude.{ℕ}
use Rattle.wm_points.specs.Points.{Point}
use Rattle.wm_differences.specs.declared.points.Point.{Point as Recorded}

-- the point that is meant
abbrev pub point_view : Recorded → Point ℕ
point_view x = record { space = x.space; log_length = x.log_length; rebases = x.rebases; what = x.version }
