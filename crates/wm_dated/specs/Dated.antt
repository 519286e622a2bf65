-- What stood in a workspace on a date, by the records of its log.
use Rattle.std.specs.Prelude.{ℕ, ◌==◌, ◌&&◌, nat_le, if◌then◌else◌, List, [], ◌∷◌, Option, None}
use Rattle.std.specs.Bool.{then_some}
use Rattle.std.specs.Option.{option_or}
use Rattle.wm_base.specs.Period.{Span}
use Rattle.wm_base.specs.declared.row.Row.{Row}
use Rattle.wm_base.specs.declared.stamp.Stamp.{Stamp}
use Rattle.wm_graph.specs.Parts.{Parts}
use Rattle.wm_period.specs.Pieces.{Held}
use Rattle.wm_spec.specs.Lists.{Cell}
use Rattle.wm_spec.specs.declared.record.hist.Hist.{Hist}
use Rattle.wm_spec.specs.declared.record.space.Space.{Space}
use Rattle.wm_spec.specs.declared.record.table.Table.{Table}
use Rattle.wm_state.specs.Listing.{IsShowingBy}
use Rattle.wm_state.specs.Standing.{in_cells, seen}
use Rattle.wm_view_rows.specs.History.{AreLogged}

-- what the record of an entry says of each of its cells
abbrev pub hist_held : Hist → Held
hist_held x = record { stamp = let s : Stamp = record { number = x.stamp } in s; kind = x.kind; gone = x.gone }

-- what the last of these records of moment at most a date says of a cell
abbrev pub dated_in : List Hist → ℕ → Cell → Option Held
dated_in [] date c = None
dated_in (x ∷ xs) date c = option_or (dated_in xs date c) (then_some (nat_le x.moment date && in_cells x.cells c) (hist_held x))

-- what a workspace was born with, by its record; LIVE with nothing
abbrev pub born_with : Parts → Space → Cell → Option Held
born_with p a c = if a.number == 0 then None else seen p a.birth_version c

-- what the records of a workspace's log on a table say of a cell on a date
abbrev pub dated : Parts → Space → List Hist → ℕ → Cell → Option Held
dated p a xs date c = option_or (dated_in xs date c) (born_with p a c)

-- what is shown of the rows of a table that stood in a workspace on a date
pub record IsDatedShowing (p : Parts) (a : Space) (date : ℕ) (t : Table) (within : Span) (rows : List Row) : Type 0 where
  pub logged : List Hist
  pub are_logged : AreLogged p a.number t.number logged
  pub shown : IsShowingBy p (dated p a logged date) t.number t.valid within rows
