-- What the functions that make rows are given, as the definitions have it.
use Rattle.std.specs.Prelude.{option_copied}
use Rattle.wm_net.specs.Conflicts.{Stamps}
use Rattle.wm_view_rows.specs.declared.differences.PointStamps.{PointStamps}
use Rattle.wm_view_rows.specs.declared.rows.EventAt.{EventAt}
use Rattle.wm_view_rows.specs.declared.rows.Sides.{Sides}
use Rattle.wm_view_rows.specs.Rows.{Event, SideRows}

abbrev pub side_rows : Sides → SideRows
side_rows s = record { base = option_copied s.base; parent = option_copied s.parent; child = option_copied s.child }

abbrev pub side_stamps : PointStamps → Stamps
side_stamps s = record { base = s.base; parent = s.first; child = s.second }

abbrev pub event_at : EventAt → Event
event_at e = record {
  key = e.cells.now.key;
  from = e.cells.now.from;
  till = e.cells.now.till;
  row = option_copied e.row;
  kind = e.kind;
  moment = e.moment;
  user = e.user.now;
}
