-- The columns of a table, as a condition names them.
use Rattle.std.specs.Prelude.{ℕ, List, [], ◌∷◌, ◌++◌, map, if◌then◌else◌}
use Rattle.wm_listing.specs.declared.columns.Column.{Column}
use Rattle.wm_spec.specs.declared.record.column.TableColumn.{TableColumn}
use Rattle.wm_spec.specs.declared.record.table.Table.{Table}
use Rattle.wm_spec.specs.Operands.{wm_valid}
use Rattle.wm_graph.specs.Rules.{type_of}

-- a declared column, of a source of that name
abbrev pub declared_column : List ℕ → TableColumn → Column
declared_column source column = record { source = source; name = column.name; kind = type_of column.kind }

-- the column of the periods of validity
abbrev pub valid_column : List ℕ → Column
valid_column source = record { source = source; name = wm_valid; kind = 4 }

-- the declared columns in order, and then WM_VALID where the table has valid time
abbrev pub columns_of_table : List ℕ → Table → List Column
columns_of_table source table = map (declared_column source) table.columns ++ (if table.valid then valid_column source ∷ [] else [])
