-- Tables found by name.
use Rattle.std.specs.Prelude.{ℕ, Bool, List, Option, find}
use Rattle.std.specs.Str.{bytes_eq}
use Rattle.wm_spec.specs.declared.record.table.Table.{Table}

-- two tables of one name
abbrev pub same_name : Table → Table → Bool
same_name t u = bytes_eq t.name u.name

-- the table of this name, where it is there
abbrev pub found : List ℕ → List Table → Option Table
found name tables = find (λ (t : Table). bytes_eq name t.name) tables
