-- What is shown of the conflicts of a workspace with its parent in a table: by their lists, and by their records.
use Rattle.std.specs.Prelude.{ℕ, ◌≡◌, List, Option, option_map}
use Rattle.std.specs.List.{flat_map}
use Rattle.std.specs.Option.{option_and_then}
use Rattle.wm_base.specs.declared.row.Row.{Row}
use Rattle.wm_base.specs.declared.value.Value.{Value}
use Rattle.wm_graph.specs.Parts.{Parts, row_of}
use Rattle.wm_net.specs.Conflicts.{Stamps, conflicts_in, grouped, in_table, same_stamps}
use Rattle.wm_net.specs.Groups.{Group, cell}
use Rattle.wm_net.specs.Listed.{IsListing, Stretch}
use Rattle.wm_spec.specs.Lists.{Entry, Told, told}
use Rattle.wm_spec.specs.declared.record.row.RowRecord.{RowRecord}
use Rattle.wm_spec.specs.declared.record.space.Space.{Space}
use Rattle.wm_spec.specs.declared.record.table.Table.{Table}
use Rattle.wm_state.specs.State.{Workspace, content}
use Rattle.wm_telling.specs.Sides.{sides}
use Rattle.wm_telling.specs.Telling.{clash_held}
use Rattle.wm_view_rows.specs.Rows.{SideRows, conflict_rows}

-- ---- by their lists

-- the values of the row that a list holds at the beginning of a stretch
abbrev pub values_on : List Entry → Group → Stretch Stamps → Option (List Value)
values_on es g s = option_and_then (λ (t : Told). option_map (λ (row : Row). row.values) t.row) (told es (cell g s.from))

abbrev pub rows_on : Workspace → Workspace → Group × Stretch Stamps → SideRows
rows_on p w x = record { base = values_on w.lists.base x.0 x.1; parent = values_on (content p) x.0 x.1; child = values_on (content w) x.0 x.1 }

-- a workspace and its parent: three rows for each stretch of conflict in the table, by key and from
abbrev pub conflict_view : Workspace → Workspace → Table → List Row
conflict_view p w t =
    flat_map (λ (x : Group × Stretch Stamps). conflict_rows t x.0.key (record { from = x.1.from; till = x.1.till }) p.name w.name (rows_on p w x))
    (conflicts_in t.number (sides p w))

-- ---- by their records

-- the values of the row of a stamp
abbrev pub values_with : Parts → ℕ → Option (List Value)
values_with p stamp = option_map (λ (r : RowRecord). r.values) (row_of p.rows stamp)

abbrev pub rows_with : Parts → Stamps → SideRows
rows_with p x = record { base = option_and_then (values_with p) x.base; parent = option_and_then (values_with p) x.parent; child = option_and_then (values_with p) x.child }

abbrev pub clash_rows : Parts → Space → Space → Table → Group × Stretch Stamps → List Row
clash_rows p a b t x = conflict_rows t x.0.key (record { from = x.1.from; till = x.1.till }) b.name a.name (rows_with p x.1.value)

-- the stretches of a table on which a workspace and its parent are in conflict, by key and from, each as long as can be
abbrev pub AreClashes : Parts → Space → Space → ℕ → List (Group × Stretch Stamps) → Type 0
AreClashes p a b table xs = IsListing same_stamps grouped (in_table table (clash_held p a b)) xs

-- three rows for each of them
pub record IsConflictView (p : Parts) (a b : Space) (t : Table) (rows : List Row) : Type 0 where
  pub found : List (Group × Stretch Stamps)
  pub listed : AreClashes p a b t.number found
  pub are : rows ≡ flat_map (clash_rows p a b t) found
