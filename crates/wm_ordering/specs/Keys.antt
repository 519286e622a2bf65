-- Rows with the values that put them in order.
use Rattle.std.specs.Prelude.{List}
use Rattle.wm_listing.specs.declared.columns.Column.{Column}
use Rattle.wm_base.specs.declared.row.Row.{Row}
use Rattle.wm_base.specs.declared.value.Value.{Value}
use Rattle.wm_syntax.specs.Trees.{Query}
use Rattle.wm_ordering.specs.declared.keyed.Keyed.{Keyed}
use Rattle.wm_ordering.specs.declared.shown.Shown.{Shown}
use Rattle.wm_ordering.specs.RowOrder.{order_values}

-- the row of values
abbrev pub row_of : List Value → Row
row_of values = record { values = values }

-- a tuple with the row of the values that it shows
abbrev pub shown_by : List Value × Row → Shown
shown_by p = record { tuple = p.1; row = row_of p.0 }

-- a row that is shown, with its keys
abbrev pub shown_keyed_by : List Value × Shown → Keyed
shown_keyed_by p = record { keys = p.0; row = p.1.row }

-- a row that is shown, by what ORDER BY says
abbrev pub keyed_by_order : Query → List Column → Shown → Keyed
keyed_by_order query columns s = record { keys = order_values query columns s; row = s.row }
