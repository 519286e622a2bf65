-- SetLockingON, SetLockingOFF, LockRows and UnlockRows.
use Rattle.std.specs.Prelude.{ℕ, ◌==◌, Bool, false, not, ◌&&◌, if◌then◌else◌, List, [], ◌∷◌, length, map, Option, None, unwrap_or, codes}
use Rattle.std.specs.List.{filter}
use Rattle.std.specs.Option.{option_map_or}
use Rattle.std.specs.Str.{bytes_eq}
use Rattle.wm_base.specs.Period.{Span, shared}
use Rattle.wm_base.specs.declared.refusal.Refusal.{Refusal}
use Rattle.wm_base.specs.declared.row.Row.{Row}
use Rattle.wm_calls.specs.Arguments.{text_given}
use Rattle.wm_calls.specs.Faults.{argument_fault}
use Rattle.wm_calls.specs.Takes.{is_written}
use Rattle.wm_decided.specs.Keys.{columns_of_keys, meets_key}
use Rattle.wm_dml.specs.Changing.{chosen, declared_values, row_key, row_period}
use Rattle.wm_grammar.specs.declared.procedure.Procedure.{Procedure}
use Rattle.wm_grammar.specs.declared.procedure.Parameter.{Parameter}
use Rattle.wm_grammar.specs.declared.procedure.Parameter.TheVariants as parameters
use Rattle.wm_guard.specs.Barring.{locks_in}
use Rattle.wm_outline.specs.Outline.{Outline, SpaceOutline}
use Rattle.wm_print.specs.Texts.{Done, Fine}
use Rattle.wm_reader.specs.Reading.{folded}
use Rattle.wm_spec.specs.Lists.{Entry}
use Rattle.wm_spec.specs.declared.record.cell_range.CellRange.{CellRange}
use Rattle.wm_spec.specs.declared.record.lock.Lock.{Lock}
use Rattle.wm_spec.specs.declared.record.lock.LockMode.{LockMode}
use Rattle.wm_spec.specs.declared.record.lock.LockMode.TheVariants.{Exclusive, Shared, WorkspaceExclusive, VersionExclusive}
use Rattle.wm_spec.specs.declared.record.table.Table.{Table}
use Rattle.wm_state.specs.State.{Session, State, content, table_named, workspace_of}
use Rattle.wm_state.specs.declared.edit.Edit.{Edit}
use Rattle.wm_state.specs.declared.edit.Edit.TheVariants as edits
use Rattle.wm_state.specs.declared.edit.NewLock.{NewLock}
use Rattle.wm_syntax.specs.Trees.{Cond}
use Rattle.wm_syntax.specs.declared.statement.Arg.{Arg}
use Rattle.wm_typing.specs.Types.{mistyped_in_filter}
use Rattle.wm_model.specs.Seating.{Stay, Set}
use Rattle.wm_model.specs.Step.Faulting.{fault_around, unkeyed_fault}
use Rattle.wm_model.specs.Step.Locks.{claim_of, lock_fault, lock_parts, unlock_edits}
use Rattle.wm_model.specs.Step.Periods.{within}
use Rattle.wm_model.specs.Step.Plans.{Plan, also, for_named, for_table, for_text, space_named, spent, spent_by}
use Rattle.wm_model.specs.Step.Querying.{rows_in}
use Rattle.wm_model.specs.Step.Refusing.{empty_period, mistyped, no_table, no_workspace, refused_for, refused_if, versioning}
use Rattle.wm_model.specs.Step.Sessions.{Lock as LockSetting}

-- ---- how a session's changes lock

-- the mode of a word: one that fits the parameter is one of four
abbrev pub mode_in : List ℕ → LockMode
mode_in word =
    if is_written word (codes "S") then Shared else
    (if is_written word (codes "WE") then WorkspaceExclusive else
    (if is_written word (codes "VE") then VersionExclusive else Exclusive))

-- E where none is given
abbrev pub mode_given : Procedure → List Arg → Parameter → LockMode
mode_given procedure args parameter = mode_in (unwrap_or (text_given procedure args parameter) (codes "E"))

-- SetLockingON sets the mode in which the session's changes lock what they change, and SetLockingOFF that they do not
abbrev pub set_locking_plan : Session → Option (List ℕ) → Option LockMode → Plan
set_locking_plan session fault mode = record { faults = refused_for mistyped fault ∷ []; edits = []; seating = Set session.name (LockSetting mode); answer = Fine }

-- ---- rows of a table

-- what a call asks about rows of a table: its arguments, the condition on their keys, and whether a period in that is empty
pub record Asking : Type 0 where
  pub procedure : Procedure
  pub args : List Arg
  pub condition : Option Cond
  pub empty : Bool

abbrev pub workspace_asked : Asking → List ℕ
workspace_asked a = unwrap_or (text_given a.procedure a.args parameters.Workspace) []

-- what is wrong with that
abbrev pub asking_faults : Asking → Table → List (Option Refusal)
asking_faults a t =
    refused_if (not t.versioned) (versioning t.name false)
    ∷ unkeyed_fault t a.condition
    ∷ refused_for mistyped (fault_around a.procedure a.args (mistyped_in_filter (columns_of_keys t) a.condition))
    ∷ refused_if a.empty empty_period
    ∷ []

-- the plan for a table and a workspace
abbrev pub for_space : Asking → (Table → SpaceOutline → Plan) → Outline → Table → Plan
for_space a act o t = also (asking_faults a t) (for_named (no_workspace (workspace_asked a)) (act t) (space_named (workspace_asked a) o))

abbrev pub for_rows : Asking → (Table → SpaceOutline → Plan) → Outline → Plan
for_rows a act o =
    for_text (text_given a.procedure a.args parameters.TableName) (argument_fault a.procedure a.args)
    (λ name. for_table (no_table (folded name)) (for_space a act o) (table_named (folded name) o.tables))

-- ---- LockRows

-- a row, cut to a period
abbrev pub cells_in : Table → Span → Row → CellRange
cells_in t period row = let p = shared (row_period t row) period in record { table = t.number; key = row_key t (declared_values t row.values); from = p.from; till = p.till }

abbrev pub lock_edits : ℕ → LockMode → List ℕ → List NewLock → List Edit
lock_edits n mode user [] = []
lock_edits n mode user (x ∷ xs) = edits.Lock n mode user (x ∷ xs) ∷ []

-- the work is at its end, where something is to be locked
abbrev pub locks_spent : List NewLock → Outline → Option Refusal
locks_spent [] o = None
locks_spent (x ∷ xs) o = spent_by (length (x ∷ xs)) o

-- rows of a table are locked in a workspace
abbrev pub locking : Session → LockMode → Outline → Table → List Row → SpaceOutline → Plan
locking session mode o t rows x =
    let cells = map (cells_in t (within o.moment session t)) rows in
    let parts = lock_parts o (record { space = x.number; mode = mode; user = session.user }) cells in
    record {
      faults = lock_fault o (claim_of session x.number) cells ∷ locks_spent parts o ∷ [];
      edits = lock_edits x.number mode session.user parts;
      seating = Stay;
      answer = Done (length rows);
    }

-- LockRows locks rows that a workspace holds; `rows` tells those of a table and a workspace that are meant
abbrev pub lock_rows_plan : Session → Asking → (Table → SpaceOutline → List Row) → Outline → Plan
lock_rows_plan session a rows o =
    for_rows a (λ t x. locking session (mode_given a.procedure a.args parameters.RowLockMode) o t (rows t x) x) o

-- what stands in the workspace of a number
abbrev pub content_numbered : State → ℕ → List Entry
content_numbered s n = option_map_or content (workspace_of s.durable.spaces n) []

-- the rows of a table that are newest in a workspace, as the session's period shows them, whose keys meet the condition
abbrev pub rows_meant : Session → Asking → State → Table → SpaceOutline → List Row
rows_meant session a s t x = chosen t a.condition (rows_in (within s.moment session t) (content_numbered s x.number) t)

-- ---- UnlockRows

-- a lock on the table that the session's user holds in the workspace of a number, on a key that meets the condition
abbrev pub is_freed : Session → Option Cond → Table → ℕ → Lock → Bool
is_freed session condition t n x = ((x.space == n) && bytes_eq session.user x.user) && meets_key t condition x.cells.key

abbrev pub unlocking_spent : List Lock → Outline → Option Refusal
unlocking_spent [] o = None
unlocking_spent (x ∷ xs) o = spent o

abbrev pub unlocking : Session → Asking → Outline → Table → SpaceOutline → Plan
unlocking session a o t x =
    let freed = filter (is_freed session a.condition t x.number) (locks_in t.number o.locks) in
    record { faults = unlocking_spent freed o ∷ []; edits = unlock_edits (map (λ (y : Lock). y.making) freed); seating = Stay; answer = Done (length freed) }

-- UnlockRows drops locks of the session's user, whatever their modes
abbrev pub unlock_rows_plan : Session → Asking → Outline → Plan
unlock_rows_plan session a o = for_rows a (unlocking session a o) o
