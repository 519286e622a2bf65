-- The differences that a session sees in each state that the records stand for.
use Rattle.std.proofs.Common.{◌≡◌, ℕ, List, [], Option, Some, None}
use Rattle.std.specs.Option.{option_and_then, option_map, option_map_or}
use Rattle.wm_base.specs.declared.row.Row.{Row}
use Rattle.wm_graph.specs.Parts.{Parts}
use Rattle.wm_points.proofs.Meant.{point_alike}
use Rattle.wm_points.proofs.Meeting.{ArePoints, Neither, Both, common_alike}
use Rattle.wm_points.specs.Points.{Point, point_in}
use Rattle.wm_points.specs.Recorded.{IsPoint, point_by}
use Rattle.wm_spec.specs.Lists.{Entry}
use Rattle.wm_spec.specs.declared.record.table.Table.{Table}
use Rattle.wm_state.specs.Standing.{Stands}
use Rattle.wm_state.specs.State.{Difference, Durable, State, Workspace, workspace_of}
use Rattle.wm_view_rows.proofs.Compared.{difference_view_is}
use Rattle.wm_view_rows.specs.Differences.{Sheets, difference_view}
use Rattle.wm_model.specs.Sources.{AreCompared, AreDifferent, versions_by}
use Rattle.wm_model.specs.Step.{differences_shown, sheets_in, viewpoint_name}

-- LIVE took no turn
abbrev pub LiveTook : List Workspace → Type 0
LiveTook spaces = (u : Workspace) → workspace_of spaces 0 ≡ Some u → u.turns ≡ []

-- two points by the records and in the state differ alike
both_differ : (p : Parts) (s : Durable) (d : Difference) (a b : Point ℕ) (x y : Point (List Entry)) (t : Table) (rows : List Row) → Stands p s → LiveTook s.spaces → IsPoint p s.spaces a x → IsPoint p s.spaces b y
    → AreCompared p d (Some (versions_by p a b)) t rows → rows ≡ difference_view (viewpoint_name d.first) (viewpoint_name d.second) (sheets_in s.spaces x y) t
both_differ p s d a b x y t rows st live one other are =
    let base = common_alike p s a b x y st live one other in
    difference_view_is p (versions_by p a b) (sheets_in s.spaces x y) (viewpoint_name d.first) (viewpoint_name d.second) t rows base.holds one.holds other.holds base.rows one.rows other.rows are

points_differ : (p : Parts) (s : Durable) (d : Difference) (a b : Option (Point ℕ)) (x y : Option (Point (List Entry))) (t : Table) (rows : List Row) → Stands p s → LiveTook s.spaces → ArePoints p s.spaces a x → ArePoints p s.spaces b y
    → AreCompared p d (option_and_then (λ (v : Point ℕ). option_map (versions_by p v) b) a) t rows
    → rows ≡ option_map_or (λ (z : Sheets). difference_view (viewpoint_name d.first) (viewpoint_name d.second) z t) (option_and_then (λ (v : Point (List Entry)). option_map (sheets_in s.spaces v) y) x) []
points_differ p s d a b x y t rows st live Neither other are = are
points_differ p s d a b x y t rows st live (Both u v one) Neither are = are
points_differ p s d a b x y t rows st live (Both u v one) (Both z w other) are = both_differ p s d u z v w t rows st live one other are

-- the differences of the points that were set, where they are there
pub differences_seen : (p : Parts) (s : State) (o : Option Difference) (t : Table) (rows : List Row) → Stands p s.durable → LiveTook s.durable.spaces → AreDifferent p o t rows → rows ≡ differences_shown s o t
differences_seen p s None t rows st live are = are
differences_seen p s (Some d) t rows st live are =
    let one = point_alike p s.durable d.first st in
    let other = point_alike p s.durable d.second st in
    points_differ p s.durable d (point_by p d.first) (point_by p d.second) (point_in s.durable.spaces d.first) (point_in s.durable.spaces d.second) t rows st live one other are
