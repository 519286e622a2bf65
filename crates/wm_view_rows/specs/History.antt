-- What is shown of the history of a table in a workspace: by its log, and by the records of that.
use Rattle.std.specs.Prelude.{ℕ, ◌≡◌, ◌<◌, ◌&&◌, ◌==◌, if◌then◌else◌, List, [], ◌∷◌, map, None, option_map}
use Rattle.std.specs.List.{filter, find}
use Rattle.wm_base.specs.declared.row.Row.{Row}
use Rattle.wm_graph.specs.Parts.{Parts}
use Rattle.wm_spec.specs.Lists.{Entry}
use Rattle.wm_spec.specs.declared.record.hist.Hist.{Hist}
use Rattle.wm_spec.specs.declared.record.space.Space.{Space}
use Rattle.wm_spec.specs.declared.record.table.Table.{Table}
use Rattle.wm_state.specs.State.{Workspace}
use Rattle.wm_view_rows.specs.Conflicts.{values_with}
use Rattle.wm_view_rows.specs.Rows.{Event, history_rows}

-- ---- by its log

abbrev pub event_of : Entry → Event
event_of e = record {
  key = e.key;
  from = e.from;
  till = e.till;
  row = option_map (λ (row : Row). row.values) e.row;
  kind = e.kind;
  moment = e.moment;
  user = e.user;
}

-- the entries of its log on the table, in their order
abbrev pub history_view : Workspace → Table → List Row
history_view w t = history_rows w.name t (map event_of (filter (λ (e : Entry). e.table == t.number) w.lists.log))

-- ---- by its records

abbrev pub event_by : Parts → Hist → Event
event_by p x = record {
  key = x.cells.key;
  from = x.cells.from;
  till = x.cells.till;
  row = if x.gone then None else values_with p x.stamp;
  kind = x.kind;
  moment = x.moment;
  user = x.user;
}

-- each stands behind the one before it
abbrev pub Follow : List Hist → Type 0
Follow [] = Unit {0}
Follow (x ∷ []) = Unit {0}
Follow (x ∷ y ∷ ys) = (x.position < y.position) × Follow (y ∷ ys)

-- the records of the entries of a log on a table, by position
pub record AreLogged (p : Parts) (n table : ℕ) (xs : List Hist) : Type 0 where
  pub follow : Follow xs
  pub same : (position : ℕ)
      → find (λ (x : Hist). x.position == position) xs
      ≡ find (λ (x : Hist). (x.space == n) && ((x.cells.table == table) && (x.position == position))) p.hists

pub record IsHistoryView (p : Parts) (a : Space) (t : Table) (rows : List Row) : Type 0 where
  pub logged : List Hist
  pub are_logged : AreLogged p a.number t.number logged
  pub are : rows ≡ history_rows a.name t (map (event_by p) logged)
