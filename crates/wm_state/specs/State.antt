-- The state between two lines. Each workspace has whole lists of its own: no version, no piece, no page is known here.
use Rattle.std.specs.Prelude.{ℕ, ◌+◌, Bool, true, ◌==◌, if◌then◌else◌, List, [], ◌∷◌, ◌++◌, max, length, slice_get, Option, Some, None, codes}
use Rattle.std.specs.List.{find}
use Rattle.std.specs.Str.{bytes_eq}
use Rattle.wm_base.specs.Period.{Span}
use Rattle.wm_base.specs.declared.value.Value.{Value}
use Rattle.wm_net.specs.Conflicts.{Settled}
use Rattle.wm_net.specs.Listed.{Stretch}
use Rattle.wm_spec.specs.Lists.{Entry, Told}
use Rattle.wm_spec.specs.declared.record.lock.Lock.{Lock}
use Rattle.wm_spec.specs.declared.record.lock.LockMode.{LockMode}
use Rattle.wm_spec.specs.declared.record.space.FreezeMode.{FreezeMode}
use Rattle.wm_spec.specs.declared.record.space.FreezeMode.TheVariants.{Free}
use Rattle.wm_spec.specs.declared.record.table.Table.{Table}

-- at_birth: what the workspace was born with; base: its copy of its parent's content; own: its changes that are not merged;
-- log: all its changes
pub record Contents : Type 0 where
  pub at_birth : List Entry
  pub base : List Entry
  pub own : List Entry
  pub log : List Entry

-- a turn of a workspace, its birth or a rebase: how long its parent's log was, how often the parent had been rebased, and what stood in
-- the parent there
pub record Turn : Type 0 where
  pub log_length : ℕ
  pub rebases : ℕ
  pub content : List Entry

-- what stood in a workspace at a place: its copy of its parent's content and its own changes, and what was counted of it there.
-- making: which savepoint of the store it is; implicit: it was made for a workspace that was born there; moment: when its
-- place was made; from, log_length, rebases: those of the workspace there
pub record Savepoint : Type 0 where
  pub making : ℕ
  pub name : List ℕ
  pub implicit : Bool
  pub place : ℕ
  pub moment : ℕ
  pub base : List Entry
  pub own : List Entry
  pub from : ℕ
  pub log_length : ℕ
  pub rebases : ℕ

-- parent is 0 in LIVE, whose number is 0; from: the length of the parent's log when base was taken; savepoints: by making; turns: none
-- in LIVE, and in every other the birth and then each rebase; settled: the marks of what resolves decided since the last of them
pub record Workspace : Type 0 where
  pub number : ℕ
  pub name : List ℕ
  pub parent : ℕ
  pub born : ℕ
  pub birth_place : ℕ
  pub lists : Contents
  pub from : ℕ
  pub rebases : ℕ
  pub next_place : ℕ
  pub next_implicit : ℕ
  pub freeze : FreezeMode
  pub writer : List ℕ
  pub savepoints : List Savepoint
  pub turns : List Turn
  pub settled : List Settled

-- where a session stands in its workspace: at what is newest, at the savepoint of this making, or on a date
pub data Stand : Type 0 where
  Latest : Stand
  At : (making : ℕ) → Stand
  Dated : (date : ℕ) → Stand

-- a decision on a stretch of conflict: what is copied there of one side, each with the period over which it stands; position: how long
-- the log of the parent was
pub record Decision : Type 0 where
  pub table : ℕ
  pub key : List Value
  pub from : ℕ
  pub till : ℕ
  pub copied : List (Stretch Told)
  pub position : ℕ

-- what a session has open to resolve conflicts of the workspace of a number: decisions in the order in which they were made
pub record Resolve : Type 0 where
  pub space : ℕ
  pub decisions : List Decision

-- a point that a session compares with another one: what is newest in the workspace of a name, or a savepoint of it
pub record Viewpoint : Type 0 where
  pub workspace : List ℕ
  pub savepoint : Option (List ℕ)

-- the two points that it compares
pub record Difference : Type 0 where
  pub first : Viewpoint
  pub second : Viewpoint

-- space: the number of its workspace; period: the one that SetValidTime set for it, in which it sees rows and changes them; conflict:
-- the name of the workspace whose conflicts it looks at, which SetConflictWorkspace set for it; resolve: what BeginResolve opened;
-- freezes: the numbers of the workspaces that it froze for itself alone; locking: the mode in which its changes lock what they change,
-- where they do; difference: the points that SetDiffVersions set for it to compare
pub record Session : Type 0 where
  pub name : List ℕ
  pub user : List ℕ
  pub space : ℕ
  pub stand : Stand
  pub period : Option Span
  pub conflict : Option (List ℕ)
  pub resolve : Option Resolve
  pub freezes : List ℕ
  pub locking : Option LockMode
  pub difference : Option Difference

-- the part of the state that a store keeps: tables in the order of their making; workspaces by number; next_stamp: the stamp that
-- the next change gets; limit: the greatest stamp that a change may get; last_moment: that of the last line that changed something
-- here; work: what these lines have counted; locks: of all workspaces, in the order of their making
pub record Durable : Type 0 where
  pub tables : List Table
  pub spaces : List Workspace
  pub locks : List Lock
  pub next_stamp : ℕ
  pub last_moment : ℕ
  pub limit : ℕ
  pub work : ℕ

-- sessions in the order of CONNECT; moment: now
pub record State : Type 0 where
  pub durable : Durable
  pub sessions : List Session
  pub moment : ℕ

-- what stands in a workspace
abbrev pub content : Workspace → List Entry
content w = w.lists.base ++ w.lists.own

-- what stood in a workspace at a savepoint
abbrev pub kept : Savepoint → List Entry
kept k = k.base ++ k.own

-- a workspace with nothing in it, as LIVE is in a fresh store
abbrev pub empty_lists : Contents
empty_lists = record { at_birth = []; base = []; own = []; log = [] }

abbrev pub fresh_live : Workspace
fresh_live = record {
  number = 0;
  name = codes "LIVE";
  parent = 0;
  born = 0;
  birth_place = 0;
  lists = empty_lists;
  from = 0;
  rebases = 0;
  next_place = 1;
  next_implicit = 1;
  freeze = Free;
  writer = [];
  savepoints = [];
  turns = [];
  settled = [];
}

-- a store that takes this many changes, before its first line
unfoldable pub fresh : ℕ → State
fresh limit = record {
  durable = record { tables = []; spaces = fresh_live ∷ []; locks = []; next_stamp = 1; last_moment = 0; limit = limit; work = 0 };
  sessions = [];
  moment = 0;
}

-- where a run begins at a moment: without sessions, and not before the last moment of the store
unfoldable pub begin : State → ℕ → State
begin s now = record { durable = s.durable; sessions = []; moment = max now s.durable.last_moment }

-- ---- what is looked up

-- the workspace of a number
abbrev pub workspace_of : List Workspace → ℕ → Option Workspace
workspace_of spaces number = find (λ (w : Workspace). w.number == number) spaces

-- the workspaces with a change to the one of this number
abbrev pub with_space : ℕ → (Workspace → Workspace) → List Workspace → List Workspace
with_space number act [] = []
with_space number act (w ∷ ws) = if w.number == number then act w ∷ ws else w ∷ with_space number act ws

-- the savepoint of a making
abbrev pub savepoint_made : ℕ → List Savepoint → Option Savepoint
savepoint_made making ks = find (λ (k : Savepoint). k.making == making) ks

-- the savepoints of the workspace of this number
abbrev pub savepoints_of : List Workspace → ℕ → List Savepoint
savepoints_of spaces number = of (workspace_of spaces number)
  where
    of : Option Workspace → List Savepoint
    of None = []
    of (Some w) = w.savepoints

-- the turn of a workspace of this number
abbrev pub turn_of : Workspace → ℕ → Option Turn
turn_of w number = slice_get w.turns number

-- the turns of the workspace of this number
abbrev pub turns_of : List Workspace → ℕ → List Turn
turns_of spaces number = of (workspace_of spaces number)
  where
    of : Option Workspace → List Turn
    of None = []
    of (Some w) = w.turns

-- the log of the workspace of this number
abbrev pub log_of : List Workspace → ℕ → List Entry
log_of spaces number = of (workspace_of spaces number)
  where
    of : Option Workspace → List Entry
    of None = []
    of (Some w) = w.lists.log

-- how many entries the log of the workspace of this number has
abbrev pub log_length : List Workspace → ℕ → ℕ
log_length spaces number = of (workspace_of spaces number)
  where
    of : Option Workspace → ℕ
    of None = 0
    of (Some w) = length w.lists.log

-- a workspace with more entries in what it changed, and in its log
abbrev pub with_entries : List Entry → Workspace → Workspace
with_entries es w = record w { lists = record w.lists { own = w.lists.own ++ es; log = w.lists.log ++ es } }

-- a workspace with more entries in its log alone
abbrev pub with_gained : List Entry → Workspace → Workspace
with_gained es w = record w { lists = record w.lists { log = w.lists.log ++ es } }

-- a workspace with a savepoint more, the next place and the next number of an implicit savepoint being these
abbrev pub with_savepoint : ℕ → ℕ → Savepoint → Workspace → Workspace
with_savepoint place implicit k w = record w { next_place = place; next_implicit = implicit; savepoints = w.savepoints ++ k ∷ [] }

-- how a table becomes ready for rows: with or without valid time, and with or without its history
pub record Readiness : Type 0 where
  pub valid : Bool
  pub history : Bool

-- the tables with the one of this number so ready for rows
abbrev pub enabled : ℕ → Readiness → List Table → List Table
enabled number how [] = []
enabled number how (t ∷ ts) =
    if t.number == number then record t { versioned = true; valid = how.valid; history = how.history } ∷ ts else t ∷ enabled number how ts

-- ---- what is looked up by name, and what comes next

-- the table, the workspace, the savepoint of a name
abbrev pub table_named : List ℕ → List Table → Option Table
table_named name tables = find (λ (t : Table). bytes_eq name t.name) tables

abbrev pub workspace_named : List ℕ → List Workspace → Option Workspace
workspace_named name spaces = find (λ (w : Workspace). bytes_eq name w.name) spaces

abbrev pub savepoint_named : List ℕ → List Savepoint → Option Savepoint
savepoint_named name ks = find (λ (k : Savepoint). bytes_eq name k.name) ks

-- one more than the greatest number of a table, 0 where there is none
abbrev pub next_table : List Table → ℕ
next_table [] = 0
next_table (t ∷ ts) = max (t.number + 1) (next_table ts)

-- one more than the greatest number of a workspace
abbrev pub next_space : List Workspace → ℕ
next_space [] = 0
next_space (w ∷ ws) = max (w.number + 1) (next_space ws)

-- one more than the greatest making of these savepoints, 1 where there is none
abbrev pub making_after : List Savepoint → ℕ
making_after [] = 1
making_after (k ∷ ks) = max (k.making + 1) (making_after ks)

-- one more than the greatest making of a savepoint of any workspace
abbrev pub next_making : List Workspace → ℕ
next_making [] = 1
next_making (w ∷ ws) = max (making_after w.savepoints) (next_making ws)
