-- SELECT.
use Rattle.std.specs.Prelude.{ℕ, List, [], ◌∷◌, Bool, false, not, ◌&&◌, ◌==◌, nat_lt, if◌then◌else◌, length, is_some, unwrap_or, Option, None, Some}
use Rattle.std.specs.List.{filter_map, flat_map}
use Rattle.std.specs.Option.{option_and_then, option_map, option_map_or, option_or}
use Rattle.wm_base.specs.Period.{Span}
use Rattle.wm_spec.specs.Lists.{Entry}
use Rattle.wm_spec.specs.Stretches.{rows}
use Rattle.wm_spec.specs.declared.record.table.Table.{Table}
use Rattle.wm_listing.specs.declared.columns.Column.{Column}
use Rattle.wm_listing.specs.declared.listing.Listing.{Listing as Source}
use Rattle.wm_base.specs.declared.refusal.Refusal.{Refusal}
use Rattle.wm_base.specs.declared.row.Row.{Row}
use Rattle.wm_syntax.specs.Trees.{Query, Src}
use Rattle.wm_select.specs.Query.{answer_of, row_limit}
use Rattle.wm_query_faults.specs.Asking.{query_fault}
use Rattle.wm_state.specs.State.{Difference, State, Session, Viewpoint, Workspace, table_named, workspace_named, workspace_of}
use Rattle.wm_state.specs.Reading.{seen_from}
use Rattle.wm_state.specs.Listing.{row_shown}
use Rattle.wm_view_rows.specs.declared.view.View.{View}
use Rattle.wm_view_rows.specs.declared.view.View.TheVariants as views
use Rattle.wm_view_rows.specs.Columns.{columns_of_view}
use Rattle.wm_view_rows.specs.Conflicts.{conflict_view}
use Rattle.wm_view_rows.specs.Differences.{Sheets, difference_view}
use Rattle.wm_view_rows.specs.History.{history_view}
use Rattle.wm_view_rows.specs.Locks.{lock_view}
use Rattle.wm_view_rows.specs.Rows.{point_name}
use Rattle.wm_view_rows.specs.Views.{is_history, table_sought, view_named}
use Rattle.wm_print.specs.Texts.{Answer, Listing}
use Rattle.wm_model.specs.Step.Refusing.{first_fault, no_history, no_savepoint, no_table, no_workspace, versioning, most_rows, out_of_range, refused_for, unless, unless_empty_period}
use Rattle.wm_outline.specs.Outline.{Outline, outline}
use Rattle.wm_points.specs.Points.{Point, climb_in, common, point_in}
use Rattle.wm_model.specs.Step.Comparing.{lost_savepoints, lost_workspace, lost_workspaces}
use Rattle.wm_model.specs.Step.Naming.{at_home, parent_in}
use Rattle.wm_model.specs.Step.Periods.{within}

-- the rows of a table that a list holds, by key and from: in a table with valid time those in a period, each with its own behind it
abbrev pub rows_in : Span → List Entry → Table → List Row
rows_in period es table = filter_map (row_shown es table.number table.valid period) (rows es table.number)

-- ---- the sources

-- the table that a source is of
abbrev pub table_asked : List Table → Src → Option Table
table_asked tables x = table_named (table_sought x.table) tables

-- the first source that is of no table
abbrev pub lost_source : List Table → List Src → Option (List ℕ)
lost_source tables [] = None
lost_source tables (x ∷ xs) = if is_some (table_asked tables x) then lost_source tables xs else Some x.table

-- the table of each source
abbrev pub tables_of : List Table → List Src → List Table
tables_of tables sources = filter_map (table_asked tables) sources

-- the name of the first table that is not ready for rows
abbrev pub table_off : List Table → Option (List ℕ)
table_off [] = None
table_off (t ∷ ts) = if t.versioned then table_off ts else Some t.name

-- what a source is called in the query
abbrev pub source_name : Src → List ℕ
source_name x = unwrap_or x.alias x.table

-- the columns of all sources, one source after another
abbrev pub columns_in : List Table → List Src → List Column
columns_in tables sources = flat_map (λ (x : Src). option_map_or (columns_of_view (view_named x.table) (source_name x)) (table_asked tables x) []) sources

-- a source is the history of a table that keeps none
abbrev pub lacks_history : Src → Table → Bool
lacks_history x t = is_history (view_named x.table) && not t.history

-- the name of the first such table
abbrev pub lost_history : List Table → List Src → Option (List ℕ)
lost_history tables [] = None
lost_history tables (x ∷ xs) = of (table_asked tables x) (lost_history tables xs)
  where
    of : Option Table → Option (List ℕ) → Option (List ℕ)
    of None others = others
    of (Some t) others = if lacks_history x t then Some t.name else others

-- ---- what views look at

-- the workspace that a view asks for, by the name that was set for the session, where it is not there
abbrev pub workspace_lost : Outline → Session → View → Option (List ℕ)
workspace_lost o session views.Conflicts = option_and_then (lost_workspace o) session.conflict
workspace_lost o session views.Differences = option_and_then (lost_workspaces o) session.difference
workspace_lost o session views.Rows = None
workspace_lost o session views.History = None
workspace_lost o session views.Locks = None

-- so for a savepoint
abbrev pub savepoint_lost : Outline → Session → View → Option (List ℕ)
savepoint_lost o session views.Differences = option_and_then (lost_savepoints o) session.difference
savepoint_lost o session views.Rows = None
savepoint_lost o session views.Conflicts = None
savepoint_lost o session views.History = None
savepoint_lost o session views.Locks = None

-- the first that a source asks for
abbrev pub first_lost : (View → Option (List ℕ)) → List Src → Option (List ℕ)
first_lost lost [] = None
first_lost lost (x ∷ xs) = option_or (lost (view_named x.table)) (first_lost lost xs)

-- the workspace whose conflicts are looked at: the one that was set for the session, and else the one that it stands in
abbrev pub conflicting : List Workspace → Option (List ℕ) → Workspace → Workspace
conflicting spaces None home = home
conflicting spaces (Some name) home = unwrap_or (workspace_named name spaces) home

-- ---- what is shown

-- LIVE has no parent, and so no conflicts
abbrev pub conflicts_shown : State → Workspace → Table → List Row
conflicts_shown s w t = if w.number == 0 then [] else conflict_view (parent_in s w) w t

-- the name of the workspace of a number, which is there in each state that lines lead to
abbrev pub space_name : State → ℕ → List ℕ
space_name s n = option_map_or (λ (w : Workspace). w.name) (workspace_of s.durable.spaces n) []

-- the points that are compared with what they have in common, where they are there
abbrev pub sheets_in : List Workspace → Point (List Entry) → Point (List Entry) → Sheets
sheets_in spaces x y = record { base = (common (climb_in spaces) x y).what; first = x.what; second = y.what }

abbrev pub sheets_of : List Workspace → Difference → Option Sheets
sheets_of spaces d = option_and_then (λ (x : Point (List Entry)). option_map (sheets_in spaces x) (point_in spaces d.second)) (point_in spaces d.first)

abbrev pub viewpoint_name : Viewpoint → List ℕ
viewpoint_name v = point_name v.workspace v.savepoint

-- where no points were set there are no differences
abbrev pub differences_shown : State → Option Difference → Table → List Row
differences_shown s None t = []
differences_shown s (Some d) t = option_map_or (λ (x : Sheets). difference_view (viewpoint_name d.first) (viewpoint_name d.second) x t) (sheets_of s.durable.spaces d) []

-- what a view of a table, or the table itself, shows a session that stands in a workspace
abbrev pub view_shown : State → Session → Workspace → View → Table → List Row
view_shown s session home views.Rows t = rows_in (within s.moment session t) (seen_from home session.stand t) t
view_shown s session home views.Conflicts t = conflicts_shown s (conflicting s.durable.spaces session.conflict home) t
view_shown s session home views.Differences t = differences_shown s session.difference t
view_shown s session home views.History t = history_view home t
view_shown s session home views.Locks t = lock_view (space_name s) t s.durable.locks

-- what a source shows it
abbrev pub shown_by : State → Session → Workspace → Src → Table → Source
shown_by s session home x t = record { columns = columns_of_view (view_named x.table) (source_name x) t; rows = view_shown s session home (view_named x.table) t }

-- what all sources show
abbrev pub sources_in : State → Session → Workspace → List Table → List Src → List Source
sources_in s session home tables sources = filter_map (λ (x : Src). option_map (shown_by s session home x) (table_asked tables x)) sources

-- what is answered with the rows that were found, if no number on the way was out of range
abbrev pub answer_rows : Option (List Row) → Answer
answer_rows None = out_of_range
answer_rows (Some found) = if nat_lt row_limit (length found) then most_rows else Listing found

-- what a query is refused for whose tables are all ready for rows
abbrev pub selecting_faults : Session → Query → List Table → State → List (Option Refusal)
selecting_faults session query tables s =
    query_fault (columns_in tables query.sources) query
    ∷ refused_for no_history (lost_history tables query.sources)
    ∷ refused_for no_workspace (first_lost (workspace_lost (outline s) session) query.sources)
    ∷ refused_for no_savepoint (first_lost (savepoint_lost (outline s) session) query.sources)
    ∷ []

abbrev pub select_ready : Session → Query → Bool → List Table → State → State × Answer
select_ready session query empty tables s =
    unless (first_fault (selecting_faults session query tables s)) s
    (at_home s session (λ w. unless_empty_period empty s (s, answer_rows (answer_of query (sources_in s session w tables query.sources)))))

-- a query whose tables are all there
abbrev pub select_from : Session → Query → Bool → List Table → State → State × Answer
select_from session query empty tables s = off (table_off (tables_of tables query.sources))
  where
    off : Option (List ℕ) → State × Answer
    off (Some name) = (s, versioning name false)
    off None = select_ready session query empty tables s

-- a query where these are the tables
abbrev pub select_among : Session → Query → Bool → List Table → State → State × Answer
select_among session query empty tables s = lost (lost_source tables query.sources)
  where
    lost : Option (List ℕ) → State × Answer
    lost (Some name) = (s, no_table name)
    lost None = select_from session query empty tables s

-- SELECT answers a query over what the session sees
abbrev pub select : Session → Query → Bool → State → State × Answer
select session query empty s = select_among session query empty s.durable.tables s
