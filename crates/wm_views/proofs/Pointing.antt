-- The points that a session compares, as they were looked up.
use Rattle.std.proofs.Common.{◌≡◌, ℕ, List, [], Option, Some, None, Result, Ok, Err, IfOk, sym, ap, subst, ◌∙◌}
use Rattle.std.specs.Option.{option_and_then, option_map}
use Rattle.wm_base.specs.declared.memory.Memory.{Memory}
use Rattle.wm_base.specs.declared.row.Row.{Row}
use Rattle.wm_differences.specs.Points.{point_view}
use Rattle.wm_differences.specs.Shown.{versions_of as given_versions}
use Rattle.wm_differences.specs.declared.points.Point.{Point as Given}
use Rattle.wm_differences.specs.declared.shown.Versions.{Versions as GivenVersions}
use Rattle.wm_graph.specs.Parts.{Parts}
use Rattle.wm_model.specs.Sources.{AreCompared, AreDifferent, versions_by, versions_of}
use Rattle.wm_model.specs.Step.{viewpoint_name}
use Rattle.wm_points.specs.Points.{Point, common}
use Rattle.wm_points.specs.Recorded.{climb_by, point_by}
use Rattle.wm_spec.specs.declared.record.table.Table.{Table}
use Rattle.wm_state.specs.State.{Difference}
use Rattle.wm_view_rows.specs.Differences.{IsDifferenceView, Versions}

module _ (p : Parts) (d : Difference) where
  -- by the first point, and by the second
  abbrev by_first : Option (Point ℕ) → Option Versions
  by_first o = option_and_then (λ (x : Point ℕ). option_map (versions_by p x) (point_by p d.second)) o

  abbrev by_second : Point ℕ → Option (Point ℕ) → Option Versions
  by_second x o = option_map (versions_by p x) o

  pub no_first : None ≡ point_by p d.first → None ≡ versions_of p d
  no_first none = ap by_first none

  pub no_second : (x : Given) → Some (point_view x) ≡ point_by p d.first → None ≡ point_by p d.second → None ≡ versions_of p d
  no_second x first none = ap (by_second (point_view x)) none ∙ ap by_first first

  pub both_there : (x y base : Given) → Some (point_view x) ≡ point_by p d.first → Some (point_view y) ≡ point_by p d.second → point_view base ≡ common (climb_by p) (point_view x) (point_view y)
      → Some (let v : Versions = record { base = base.version; first = x.version; second = y.version } in v) ≡ versions_of p d
  both_there x y base first second is =
      ap (λ (b : Point ℕ). Some (let v : Versions = record { base = b.what; first = x.version; second = y.version } in v)) is ∙ ap (by_second (point_view x)) second ∙ ap by_first first

-- ---- what is shown

module _ (p : Parts) (t : Table) (o : Option Difference) where
  pub none_set : (rows : List Row) → None ≡ o → rows ≡ [] → AreDifferent p o t rows
  none_set rows none are = subst (λ (x : Option Difference). AreDifferent p x t rows) none are

  pub none_there : (d : Difference) (rows : List Row) → Some d ≡ o → None ≡ versions_of p d → rows ≡ [] → AreDifferent p o t rows
  none_there d rows some none are = subst (λ (x : Option Difference). AreDifferent p x t rows) some (subst (λ (v : Option Versions). AreCompared p d v t rows) none are)

  pub differences_seen : (d : Difference) (v : GivenVersions) (first second : List ℕ) (r : Result (List Row) Memory) → Some d ≡ o → Some (given_versions v) ≡ versions_of p d → first ≡ viewpoint_name d.first → second ≡ viewpoint_name d.second
      → IfOk r (λ rows. IsDifferenceView p (given_versions v) first second t rows) → IfOk r (λ rows. AreDifferent p o t rows)
  differences_seen d v first second (Ok rows) some there one two view =
      subst (λ (x : Option Difference). AreDifferent p x t rows) some
      (subst (λ (x : Option Versions). AreCompared p d x t rows) there
      (subst (λ (name : List ℕ). IsDifferenceView p (given_versions v) name (viewpoint_name d.second) t rows) one (subst (λ (name : List ℕ). IsDifferenceView p (given_versions v) first name t rows) two view)))
  differences_seen d v first second (Err memory) some there one two view = tt
