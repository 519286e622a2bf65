-- What was listed of the sources of a query.
use Rattle.std.specs.Prelude.{ℕ, ◌≡◌, if◌then◌else◌, List, [], ◌∷◌, map, Option, Some, None}
use Rattle.std.specs.Option.{option_and_then, option_map, option_map_or}
use Rattle.wm_base.specs.Period.{Span}
use Rattle.wm_listing.specs.declared.listing.Listing.{Listing as Source}
use Rattle.wm_base.specs.declared.row.Row.{Row}
use Rattle.wm_syntax.specs.Trees.{Src}
use Rattle.wm_graph.specs.Parts.{Parts, space_of}
use Rattle.wm_spec.specs.declared.record.space.Space.{Space}
use Rattle.wm_spec.specs.declared.record.table.Table.{Table}
use Rattle.wm_dated.specs.Dated.{IsDatedShowing}
use Rattle.wm_points.specs.Points.{Point, common}
use Rattle.wm_points.specs.Recorded.{climb_by, point_by}
use Rattle.wm_state.specs.Listing.{IsShowing}
use Rattle.wm_state.specs.Reading.{making_from}
use Rattle.wm_state.specs.Standing.{saved_fields, saved_in}
use Rattle.wm_state.specs.State.{Difference, Stand, Latest, At, Dated}
use Rattle.wm_view_rows.specs.Columns.{columns_of_view}
use Rattle.wm_view_rows.specs.Conflicts.{IsConflictView}
use Rattle.wm_view_rows.specs.Differences.{IsDifferenceView, Versions}
use Rattle.wm_view_rows.specs.History.{IsHistoryView}
use Rattle.wm_view_rows.specs.Locks.{lock_view}
use Rattle.wm_view_rows.specs.Views.{view_named}
use Rattle.wm_view_rows.specs.declared.view.View.{View}
use Rattle.wm_view_rows.specs.declared.view.View.TheVariants.{Rows, Conflicts, Differences, History, Locks}
use Rattle.wm_model.specs.Planning.{version_read}
use Rattle.wm_model.specs.Step.{source_name, table_asked, viewpoint_name}

-- ---- what is read of a table

-- what a version holds, or what stood in the session's workspace on a date
pub data Reading : Type 0 where
  Version : (number : ℕ) → Reading
  Day : (date : ℕ) → Reading

-- what is read by one who stands so in a workspace
abbrev pub reading_at : Parts → ℕ → Stand → Table → Reading
reading_at p n Latest t = Version (version_read p n None)
reading_at p n (At making) t = Version (version_read p n (Some making))
reading_at p n (Dated date) t = if t.history then Day date else Version (version_read p n (making_from date (map saved_fields (saved_in p n))))

abbrev pub IsRead : Parts → Space → Reading → Table → Span → List Row → Type 0
IsRead p home (Version version) t period rows = IsShowing p version t.number t.valid period rows
IsRead p home (Day date) t period rows = IsDatedShowing p home date t period rows

-- ---- what is looked at

-- what a session looks at: what it reads of each table, the period in which it sees the rows, the workspace in which it stands, the one whose
-- conflicts it looks at, with its parent, where it has one, and the points that it compares
pub record Look : Type 0 where
  pub reading : Table → Reading
  pub period : Table → Span
  pub home : Space
  pub family : Option (Space × Space)
  pub difference : Option Difference

-- the conflicts of a workspace with its parent, and none of a workspace that has none
abbrev pub AreConflicts : Parts → Option (Space × Space) → Table → List Row → Type 0
AreConflicts p None t rows = rows ≡ []
AreConflicts p (Some x) t rows = IsConflictView p x.0 x.1 t rows

-- the versions of the points that are compared, and of what they have in common, where they are there
abbrev pub versions_by : Parts → Point ℕ → Point ℕ → Versions
versions_by p x y = record { base = (common (climb_by p) x y).what; first = x.what; second = y.what }

abbrev pub versions_of : Parts → Difference → Option Versions
versions_of p d = option_and_then (λ (x : Point ℕ). option_map (versions_by p x) (point_by p d.second)) (point_by p d.first)

-- their differences, and none where no points were set or one is not there
abbrev pub AreCompared : Parts → Difference → Option Versions → Table → List Row → Type 0
AreCompared p d None t rows = rows ≡ []
AreCompared p d (Some v) t rows = IsDifferenceView p v (viewpoint_name d.first) (viewpoint_name d.second) t rows

abbrev pub AreDifferent : Parts → Option Difference → Table → List Row → Type 0
AreDifferent p None t rows = rows ≡ []
AreDifferent p (Some d) t rows = AreCompared p d (versions_of p d) t rows

-- the name of the workspace of a number
abbrev pub recorded_name : Parts → ℕ → List ℕ
recorded_name p n = option_map_or (λ (r : Space). r.name) (space_of p.spaces n) []

-- what it sees of a table: the rows that it reads in its period, or a view
abbrev pub IsSeen : Parts → Look → View → Table → List Row → Type 0
IsSeen p look Rows t rows = IsRead p look.home (look.reading t) t (look.period t) rows
IsSeen p look Conflicts t rows = AreConflicts p look.family t rows
IsSeen p look Differences t rows = AreDifferent p look.difference t rows
IsSeen p look History t rows = IsHistoryView p look.home t rows
IsSeen p look Locks t rows = rows ≡ lock_view (recorded_name p) t p.locks

-- a source has the columns of what it shows, under the name of the source, and its rows
pub record IsListed (p : Parts) (look : Look) (tables : List Table) (x : Src) (l : Source) : Type 0 where
  pub table : Table
  pub named : table_asked tables x ≡ Some table
  pub columns : l.columns ≡ columns_of_view (view_named x.table) (source_name x) table
  pub rows : IsSeen p look (view_named x.table) table l.rows

-- so each of them
abbrev pub AreListed : Parts → Look → List Table → List Src → List Source → Type 0
AreListed p look tables (x ∷ xs) (l ∷ ls) = IsListed p look tables x l × AreListed p look tables xs ls
AreListed p look tables (x ∷ xs) [] = ⊥
AreListed p look tables [] ls = ls ≡ []
