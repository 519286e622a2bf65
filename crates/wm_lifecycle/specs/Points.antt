-- What the point where a savepoint is made means.
use Rattle.wm_state.specs.Points as points
use Rattle.wm_lifecycle.specs.declared.points.Point.{Point}

abbrev pub point_view : Point → points.Point
point_view pt = record {
  version = pt.version;
  base_version = pt.base_version;
  place = pt.place;
  moment = pt.moment;
  from = pt.from;
  log_length = pt.log_length;
  rebases = pt.rebases;
}
