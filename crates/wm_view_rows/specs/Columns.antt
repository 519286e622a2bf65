-- The columns of what is shown of a table.
use Rattle.std.specs.Prelude.{ℕ, if◌then◌else◌, List, [], ◌∷◌, ◌++◌, map, codes}
use Rattle.wm_listing.specs.declared.columns.Column.{Column}
use Rattle.wm_spec.specs.declared.record.table.Table.{Table}
use Rattle.wm_decided.specs.Keys.{key_columns}
use Rattle.wm_typing.specs.Columns.{columns_of_table, declared_column, valid_column}
use Rattle.wm_view_rows.specs.declared.view.View.{View}
use Rattle.wm_view_rows.specs.declared.view.View.TheVariants.{Rows, Conflicts, Differences, History, Locks}

abbrev pub text_column : List ℕ → List ℕ → Column
text_column source name = record { source = source; name = name; kind = 2 }

abbrev pub time_column : List ℕ → List ℕ → Column
time_column source name = record { source = source; name = name; kind = 3 }

-- behind those of the table: the workspace, who wrote it, what it did, when it was written, and when it was written over
abbrev pub history_columns : List ℕ → List Column
history_columns source =
    text_column source (codes "WM_WORKSPACE")
    ∷ text_column source (codes "WM_USERNAME")
    ∷ text_column source (codes "WM_OPTYPE")
    ∷ time_column source (codes "WM_CREATETIME")
    ∷ time_column source (codes "WM_RETIRETIME")
    ∷ []

-- the key columns, WM_VALID where the table has valid time, and what is told of each lock: its workspace, its mode and its user
abbrev pub lock_columns : List ℕ → Table → List Column
lock_columns source t =
    map (declared_column source) (key_columns t)
    ++ ((if t.valid then valid_column source ∷ [] else [])
    ++ text_column source (codes "WM_WORKSPACE")
    ∷ text_column source (codes "WM_LOCKMODE")
    ∷ text_column source (codes "WM_USERNAME")
    ∷ [])

-- of a source of that name: the columns of the table, with WM_VALID where it has valid time, and those that a view has besides
abbrev pub columns_of_view : View → List ℕ → Table → List Column
columns_of_view Rows source t = columns_of_table source t
columns_of_view Conflicts source t = text_column source (codes "WM_WORKSPACE") ∷ (columns_of_table source t ++ text_column source (codes "WM_DELETED") ∷ [])
columns_of_view Differences source t = columns_of_table source t ++ text_column source (codes "WM_DIFFVER") ∷ text_column source (codes "WM_CODE") ∷ []
columns_of_view History source t = columns_of_table source t ++ history_columns source
columns_of_view Locks source t = lock_columns source t
