-- The rows that an UPDATE or a DELETE changes.
use Rattle.std.specs.Prelude.{ℕ, ◌≡◌, Bool, true, ◌&&◌, if◌then◌else◌, length, drop, List, Option}
use Rattle.std.specs.List.{list_all}
use Rattle.wm_base.specs.Period.{Span}
use Rattle.wm_base.specs.declared.row.Row.{Row}
use Rattle.wm_base.specs.declared.value.Value.{Value}
use Rattle.wm_syntax.specs.Trees.{Cond}
use Rattle.wm_dml.specs.Changing.{chosen, declared_values, row_key}
use Rattle.wm_dml.specs.Standing.{is_period_alone}
use Rattle.wm_graph.specs.Parts.{parts_of}
use Rattle.wm_graph.specs.Rules.{is_key_of, is_row_of}
use Rattle.wm_spec.specs.declared.record.stored.Stored.{Stored}
use Rattle.wm_spec.specs.declared.record.table.Table.{Table}
use Rattle.wm_state.specs.Listing.{IsShowing}

-- the values are a row of the table, and its key is one of the table's
abbrev pub is_keyed_row : Table → List Value → Bool
is_keyed_row t row = is_row_of row t && is_key_of (row_key t row) t

-- so are the declared values of a row that is shown, and behind them is its period, where the table has valid time
abbrev pub is_keyed_shown : Table → Row → Bool
is_keyed_shown t r = is_keyed_row t (declared_values t r.values) && (if t.valid then is_period_alone (drop (length t.columns) r.values) else true)

abbrev pub are_keyed : Table → List Row → Bool
are_keyed t rows = list_all (is_keyed_shown t) rows

-- rows are those that a version shows of a table in a period on which the condition is true, by key
pub record AreChosen (rs : List Stored) (version : ℕ) (t : Table) (within : Span) (condition : Option Cond) (rows : List Row) : Type 0 where
  pub all : List Row
  pub listed : IsShowing (parts_of rs) version t.number t.valid within all
  pub are : rows ≡ chosen t condition all
