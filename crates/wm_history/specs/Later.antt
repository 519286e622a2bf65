-- What is written behind an entry of a log, and the rows of entries by that.
use Rattle.std.specs.Prelude.{ℕ, ◌≡◌, Bool, ◌&&◌, nat_lt, List, [], map, reverse, Option, option_map, unwrap_or}
use Rattle.std.specs.BTreeMap.{is_at}
use Rattle.std.specs.List.{find}
use Rattle.std.specs.Map.{lookup}
use Rattle.std.specs.declared.alloc.Global.{Global}
use Rattle.std.specs.declared.vec.Vec.{Vec}
use Rattle.wm_base.specs.Key.{key_order}
use Rattle.wm_base.specs.declared.row.Row.{Row}
use Rattle.wm_base.specs.declared.value.Value.{Value}
use Rattle.wm_graph.specs.Parts.{as_hist, parts_of}
use Rattle.wm_index.specs.Kinds.{kind_at}
use Rattle.wm_spec.specs.declared.record.hist.Hist.{Hist}
use Rattle.wm_spec.specs.declared.record.stored.Stored.{Stored}
use Rattle.wm_spec.specs.declared.record.table.Table.{Table}
use Rattle.wm_view_rows.specs.History.{event_by}
use Rattle.wm_view_rows.specs.Rows.{Event, history_row, history_rows, retired}
use Rattle.wm_history.specs.declared.later.Written.{Written}

-- what was written, by key
abbrev pub Noted : Type 0
Noted = List (List Value × Vec Written Global)

-- what was written for a key
abbrev pub written_at : Noted → List Value → List Written
written_at noted key = unwrap_or (option_map (λ v. v.items) (lookup (is_at (key_order key)) noted)) []

-- an entry as what was written
abbrev pub written_as : Hist → Written
written_as x = record { from = x.cells.from; till = x.cells.till; moment = x.moment }

-- it was written over a time that has a moment of this one
abbrev pub meets : ℕ → ℕ → Written → Bool
meets from till w = nat_lt from w.till && nat_lt w.from till

-- when the last that meets a time was written
abbrev pub last_over : ℕ → ℕ → List Written → Option ℕ
last_over from till written = option_map (λ (w : Written). w.moment) (find (meets from till) (reverse written))

-- the row of an event, by what was written behind it
abbrev pub row_before : List ℕ → Table → Noted → Event → Row
row_before workspace t noted e = history_row workspace t e (last_over e.from e.till (written_at noted e.key))

-- the events of the entries of some ids
abbrev pub events_at : List Stored → List ℕ → List Event
events_at ss ids = map (event_by (parts_of ss)) (kind_at as_hist ss ids)

-- events were told, the last first, and what they wrote is known
pub record AreTold (workspace : List ℕ) (t : Table) (done : List Event) (noted : Noted) (rows : List Row) : Type 0 where
  pub are : rows ≡ reverse (history_rows workspace t done)
  pub over : (e : Event) → last_over e.from e.till (written_at noted e.key) ≡ retired e done
