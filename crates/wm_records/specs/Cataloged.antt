-- The catalog of the tables among records, and the number after theirs.
use Rattle.std.specs.Prelude.{ℕ, ◌≡◌, ◌+◌, max, true, List, Option, Some, None}
use Rattle.wm_catalog.specs.Catalog.{same_name}
use Rattle.wm_graph.specs.Parts.{parts_of}
use Rattle.wm_graph.specs.Rules.{differ}
use Rattle.wm_spec.specs.declared.record.stored.Stored.{Stored}
use Rattle.wm_spec.specs.declared.record.table.Table.{Table}
use Rattle.wm_state.specs.Standing.{by_number}

-- the catalog has the tables by number, where their names differ
abbrev pub IsCatalog : List Stored → List Table → Type 0
IsCatalog ss catalog = differ same_name (parts_of ss).tables ≡ true → catalog ≡ by_number (parts_of ss).tables

-- the greater of a number and the one after that of a table, where there is one
abbrev pub past : ℕ → Option Table → ℕ
past n None = n
past n (Some t) = max n (t.number + 1)
