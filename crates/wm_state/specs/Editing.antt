-- What edits make of the state.
use Rattle.std.specs.Prelude.{ℕ, ◌+◌, ◌-◌, ◌^◌, ◌==◌, ◌&&◌, ◌||◌, nat_le, nat_lt, not, Bool, true, false, if◌then◌else◌, List, [], ◌∷◌, ◌++◌, map, max, length, take, Option, Some, None, unwrap_or, codes}
use Rattle.std.specs.List.{filter, list_any}
use Rattle.std.specs.Fmt.{decimal}
use Rattle.std.specs.Option.{option_map, option_map_or, option_and_then}
use Rattle.wm_base.specs.declared.row.Row.{Row}
use Rattle.wm_base.specs.declared.value.Value.{Value}
use Rattle.wm_net.specs.Conflicts.{Settled}
use Rattle.wm_spec.specs.Lists.{Entry}
use Rattle.wm_spec.specs.declared.record.lock.Lock.{Lock}
use Rattle.wm_spec.specs.declared.record.lock.LockMode.{LockMode}
use Rattle.wm_spec.specs.declared.record.space.FreezeMode.{FreezeMode}
use Rattle.wm_spec.specs.declared.record.space.FreezeMode.TheVariants.{Free}
use Rattle.wm_spec.specs.declared.record.table.Table.{Table}
use Rattle.wm_state.specs.declared.edit.Edit.{Edit}
use Rattle.wm_state.specs.declared.edit.Edit.TheVariants as edits
use Rattle.wm_state.specs.declared.edit.NewEntry.{NewEntry}
use Rattle.wm_state.specs.declared.edit.NewLock.{NewLock}
use Rattle.wm_state.specs.declared.edit.NewMark.{NewMark}
use Rattle.wm_state.specs.State.{Durable, Workspace, Savepoint, Turn, Stand, Latest, At, Dated, Readiness, content, kept, enabled, with_space, with_entries, with_gained, with_savepoint, workspace_of, savepoints_of, savepoint_made, table_named, next_making, next_space}

-- ---- what is counted

-- the greatest length of a log, and the greatest work
abbrev pub counter_limit : ℕ
counter_limit = 2 ^ 62

-- the greatest next place, next number of an implicit savepoint, and number of a workspace
abbrev pub number_limit : ℕ
number_limit = 4294967295

-- what a line that changes something counts, but for the locks that it makes
abbrev pub line_work : ℕ
line_work = 4096

-- ---- entries

-- values as a row
abbrev pub row_value : List Value → Row
row_value values = record { values = values }

-- an entry as lists have it
abbrev pub entry_of : NewEntry → Entry
entry_of e = record {
  table = e.table;
  key = e.key;
  from = e.period.from;
  till = e.period.till;
  row = option_map row_value e.row;
  stamp = e.stamp;
  kind = e.kind;
  moment = e.moment;
  user = e.user;
}

-- an entry of a list as one that is to come
abbrev pub new_entry : Entry → NewEntry
new_entry e = record {
  table = e.table;
  key = e.key;
  period = record { from = e.from; till = e.till };
  row = option_map (λ (row : Row). row.values) e.row;
  stamp = e.stamp;
  kind = e.kind;
  moment = e.moment;
  user = e.user;
}

-- the entries are in the workspace of this number, and their stamps are given
abbrev pub written_all : ℕ → List Entry → Durable → Durable
written_all n es s = record s { spaces = with_space n (with_entries es) s.spaces; next_stamp = s.next_stamp + length es }

-- ---- savepoints

-- a savepoint that is made at a moment where one stands in a workspace: at what is newest it has a new place, and at a savepoint the
-- place of that one; on a date none is made
abbrev pub saved_at : ℕ → List Workspace → Workspace → Stand → List ℕ → Bool → Option Savepoint
saved_at m spaces w Latest name implicit = Some (record {
  making = next_making spaces;
  name = name;
  implicit = implicit;
  place = w.next_place;
  moment = m;
  base = w.lists.base;
  own = w.lists.own;
  from = w.from;
  log_length = length w.lists.log;
  rebases = w.rebases;
})
saved_at m spaces w (At making) name implicit =
    option_map (λ (k : Savepoint). record k { making = next_making spaces; name = name; implicit = implicit }) (savepoint_made making w.savepoints)
saved_at m spaces w (Dated date) name implicit = None

-- the next place behind such a savepoint
abbrev pub place_behind : Workspace → Stand → ℕ
place_behind w Latest = w.next_place + 1
place_behind w (At making) = w.next_place
place_behind w (Dated date) = w.next_place

-- the workspace of this number has a savepoint more
abbrev pub saved : ℕ → ℕ → ℕ → Savepoint → Durable → Durable
saved n place implicit k s = record s { spaces = with_space n (with_savepoint place implicit k) s.spaces }

-- what is newest in a workspace is kept under a name
abbrev pub save_in : ℕ → List ℕ → Durable → Workspace → Option Durable
save_in m name s w = option_map (λ (k : Savepoint). saved w.number (w.next_place + 1) w.next_implicit k s) (saved_at m s.spaces w Latest name false)

-- ---- workspaces

-- how the names of implicit savepoints begin
abbrev pub implicit_front : List ℕ
implicit_front = codes "ICP-"

-- the name of the implicit savepoint that comes next in a workspace
abbrev pub implicit_name : Workspace → List ℕ
implicit_name w = implicit_front ++ decimal w.next_implicit

-- what a workspace that is born at a savepoint takes of its parent
abbrev pub turn_at_birth : Savepoint → Turn
turn_at_birth k = record { log_length = k.log_length; rebases = k.rebases; content = kept k }

-- a workspace that is born at a moment, at a savepoint of another
abbrev pub child_of : ℕ → List Workspace → Workspace → Savepoint → List ℕ → Workspace
child_of m spaces w k name = record {
  number = next_space spaces;
  name = name;
  parent = w.number;
  born = m;
  birth_place = k.place;
  lists = record { at_birth = kept k; base = kept k; own = []; log = [] };
  from = k.log_length;
  rebases = 0;
  next_place = 1;
  next_implicit = 1;
  freeze = Free;
  writer = [];
  savepoints = [];
  turns = turn_at_birth k ∷ [];
  settled = [];
}

-- the state with a workspace more, born at a savepoint that is made for it
abbrev pub born : ℕ → Workspace → Stand → List ℕ → Savepoint → Durable → Durable
born m w stand name k s =
    let t = saved w.number (place_behind w stand) (w.next_implicit + 1) k s in
    record t { spaces = t.spaces ++ child_of m s.spaces w k name ∷ [] }

-- a workspace is born where one stands in another
abbrev pub bear_in : ℕ → Stand → List ℕ → Durable → Workspace → Option Durable
bear_in m stand name s w = option_map (λ (k : Savepoint). born m w stand name k s) (saved_at m s.spaces w stand (implicit_name w) true)

-- ---- what is undone

-- a savepoint that stays where one goes back to another: it is no later, and had no more of the log (in what lines lead to each alone
-- says so)
abbrev pub stays_at : Savepoint → Savepoint → Bool
stays_at k j = nat_le j.place k.place && nat_le j.log_length k.log_length

-- a mark that was made before a place was given
abbrev pub is_settled_below : ℕ → Settled → Bool
is_settled_below place m = nat_lt m.place place

-- a workspace as it was at a savepoint: the marks that were made since go; its turns, its rebases and the places that it gave stay
abbrev pub restored : Savepoint → Workspace → Workspace
restored k w = record w {
  lists = record w.lists { base = k.base; own = k.own; log = take k.log_length w.lists.log };
  from = k.from;
  savepoints = filter (stays_at k) w.savepoints;
  settled = filter (is_settled_below k.place) w.settled;
}

-- a lock that stays where a workspace goes back to a place: it was made before that; so does each of another workspace
abbrev pub stays_held : ℕ → ℕ → Lock → Bool
stays_held n place x = not (x.space == n) || nat_lt x.place place

-- the workspace of this number is as it was at a savepoint, and the locks that were set there since are gone
abbrev pub restored_in : ℕ → Durable → Savepoint → Durable
restored_in n s k = record s { spaces = with_space n (restored k) s.spaces; locks = filter (stays_held n k.place) s.locks }

-- a workspace of this number is another one than the one that goes
abbrev pub is_other : ℕ → ℕ → Bool
is_other n number = not (number == n)

-- the workspaces without one
abbrev pub without : ℕ → List Workspace → List Workspace
without n = filter (λ (w : Workspace). is_other n w.number)

-- the locks without those of one
abbrev pub unlocked_of : ℕ → List Lock → List Lock
unlocked_of n = filter (λ (x : Lock). is_other n x.space)

-- ---- what is merged

-- what is newest in a workspace is kept under the next name of an implicit savepoint
abbrev pub keep_in : ℕ → Durable → Workspace → Option Durable
keep_in m s w = option_map (λ (k : Savepoint). saved w.number (w.next_place + 1) (w.next_implicit + 1) k s) (saved_at m s.spaces w Latest (implicit_name w) true)

-- in the workspace of this number, at a moment
abbrev pub kept_in : ℕ → ℕ → Durable → Durable
kept_in m n s = unwrap_or (option_and_then (keep_in m s) (workspace_of s.spaces n)) s

-- the workspace of this number has entries that were made before; no stamp is given
abbrev pub replayed_in : ℕ → List Entry → Durable → Durable
replayed_in n es s = record s { spaces = with_space n (with_entries es) s.spaces }

-- its log alone has them
abbrev pub gained_in : ℕ → List Entry → Durable → Durable
gained_in n es s = record s { spaces = with_space n (with_gained es) s.spaces }

-- the turn that a workspace takes of its parent as that is now
abbrev pub turn_on : Workspace → Turn
turn_on p = record { log_length = length p.lists.log; rebases = p.rebases; content = content p }

-- a workspace on its parent as that is now; what it has of its own stays, or goes where it was merged; its marks go
abbrev pub rebased : Bool → Workspace → Workspace → Workspace
rebased emptied p w = record w {
  lists = record w.lists { base = content p; own = if emptied then [] else w.lists.own };
  from = length p.lists.log;
  rebases = w.rebases + 1;
  turns = w.turns ++ turn_on p ∷ [];
  settled = [];
}

-- the workspace of this number on a parent
abbrev pub rebased_in : ℕ → Bool → Durable → Workspace → Durable
rebased_in n emptied s p = record s { spaces = with_space n (rebased emptied p) s.spaces }

-- the parent of the workspace of this number
abbrev pub parent_of : List Workspace → ℕ → Option Workspace
parent_of spaces n = option_and_then (λ (w : Workspace). workspace_of spaces w.parent) (workspace_of spaces n)

-- what a rebase of this workspace makes of a state; where the workspace or its parent is not there, nothing
abbrev pub rebased_so : ℕ → Bool → Durable → Durable
rebased_so n emptied s = unwrap_or (option_map (rebased_in n emptied s) (parent_of s.spaces n)) s

-- ---- what is settled

-- a mark that is made at a place of a workspace
abbrev pub settled_by : ℕ → NewMark → Settled
settled_by place m = record { table = m.table; key = m.key; from = m.period.from; till = m.period.till; position = m.position; place = place }

-- a mark of a workspace as one that is to come, without its place
abbrev pub new_mark : Settled → NewMark
new_mark m = record { table = m.table; key = m.key; period = record { from = m.from; till = m.till }; position = m.position }

-- a workspace with marks more, at the place that was given there last
abbrev pub with_marks : List NewMark → Workspace → Workspace
with_marks ms w = record w { settled = w.settled ++ map (settled_by (w.next_place - 1)) ms }

-- the workspace of this number has marks more
abbrev pub settled_in : ℕ → List NewMark → Durable → Durable
settled_in n ms s = record s { spaces = with_space n (with_marks ms) s.spaces }

-- ---- locks

-- one more than the greatest making of a lock, 1 where there is none
abbrev pub lock_after : List Lock → ℕ
lock_after [] = 1
lock_after (x ∷ xs) = max (x.making + 1) (lock_after xs)

-- a lock on cells, made at a place of a workspace
abbrev pub lock_made : ℕ → ℕ → LockMode → List ℕ → ℕ → NewLock → Lock
lock_made n place mode user making x = record {
  space = n;
  place = place;
  cells = record { table = x.table; key = x.key; from = x.period.from; till = x.period.till };
  mode = mode;
  user = user;
  making = making;
}

-- one for each of these cells, whose makings follow one another
abbrev pub locks_made : ℕ → ℕ → LockMode → List ℕ → ℕ → List NewLock → List Lock
locks_made n place mode user making [] = []
locks_made n place mode user making (x ∷ xs) = lock_made n place mode user making x ∷ locks_made n place mode user (making + 1) xs

-- the place that was given last in the workspace of this number
abbrev pub last_place : List Workspace → ℕ → ℕ
last_place spaces n = option_map_or (λ (w : Workspace). w.next_place - 1) (workspace_of spaces n) 0

-- cells are locked in the workspace of this number
abbrev pub locked_in : ℕ → LockMode → List ℕ → List NewLock → Durable → Durable
locked_in n mode user xs s = record s { locks = s.locks ++ locks_made n (last_place s.spaces n) mode user (lock_after s.locks) xs }

-- a lock is of none of these makings
abbrev pub stays_locked : List ℕ → Lock → Bool
stays_locked makings x = not (list_any (λ making. making == x.making) makings)

-- the locks of these makings are gone
abbrev pub unlocked : List ℕ → Durable → Durable
unlocked makings s = record s { locks = filter (stays_locked makings) s.locks }

-- ---- freezes

-- a workspace is frozen so, or is free
abbrev pub frozen : FreezeMode → List ℕ → Workspace → Workspace
frozen mode writer w = record w { freeze = mode; writer = writer }

-- the workspace of this number is
abbrev pub frozen_in : ℕ → FreezeMode → List ℕ → Durable → Durable
frozen_in n mode writer s = record s { spaces = with_space n (frozen mode writer) s.spaces }

-- ---- edits

-- at what is newest, or at the savepoint of a making
abbrev pub stand_of : Option ℕ → Stand
stand_of None = Latest
stand_of (Some making) = At making

-- the table of a name becomes so ready for rows
abbrev pub enable_named : Readiness → Durable → Table → Durable
enable_named how s t = record s { tables = enabled t.number how s.tables }

-- what an edit makes of a state at a moment; where the table that it makes ready, its workspace or its savepoint is not there, nothing,
-- but entries are counted in the stamps even so
abbrev pub edited : ℕ → Edit → Durable → Durable
edited m (edits.Create t) s = record s { tables = s.tables ++ t ∷ [] }
edited m (edits.Enable name valid history) s = unwrap_or (option_map (enable_named (record { valid = valid; history = history }) s) (table_named name s.tables)) s
edited m (edits.Append n entries) s = written_all n (map entry_of entries) s
edited m (edits.Save n name) s = unwrap_or (option_and_then (save_in m name s) (workspace_of s.spaces n)) s
edited m (edits.Bear n at name) s = unwrap_or (option_and_then (bear_in m (stand_of at) name s) (workspace_of s.spaces n)) s
edited m (edits.Restore n making) s = unwrap_or (option_map (restored_in n s) (savepoint_made making (savepoints_of s.spaces n))) s
edited m (edits.Remove n) s = record s { spaces = without n s.spaces; locks = unlocked_of n s.locks }
edited m (edits.Keep n) s = kept_in m n s
edited m (edits.Replay n entries) s = replayed_in n (map entry_of entries) s
edited m (edits.Gain n entries) s = gained_in n (map entry_of entries) s
edited m (edits.Rebase n emptied) s = rebased_so n emptied s
edited m (edits.Settle n marks) s = settled_in n marks s
edited m (edits.Lock n mode user cells) s = locked_in n mode user cells s
edited m (edits.Unlock makings) s = unlocked makings s
edited m (edits.Freeze n mode writer) s = frozen_in n mode writer s

-- and what edits make of it in their order
abbrev pub all_edited : ℕ → List Edit → Durable → Durable
all_edited m [] s = s
all_edited m (e ∷ es) s = all_edited m es (edited m e s)

-- the state once edits were made at a moment: if there are any, they are counted as so much work
abbrev pub drafted_by : ℕ → ℕ → List Edit → Durable → Durable
drafted_by work m [] s = s
drafted_by work m (e ∷ es) s = record (all_edited m (e ∷ es) s) { last_moment = m; work = s.work + work }

-- how many locks an edit makes
abbrev pub locks_by : Edit → ℕ
locks_by (edits.Lock n mode user cells) = length cells
locks_by e = 0

-- and how many edits make
abbrev pub locks_in : List Edit → ℕ
locks_in [] = 0
locks_in (e ∷ es) = locks_by e + locks_in es

-- what a line counts that makes edits
abbrev pub work_of : List Edit → ℕ
work_of es = locks_in es + line_work

-- and once a line has made them
abbrev pub drafted : ℕ → List Edit → Durable → Durable
drafted m es s = drafted_by (work_of es) m es s
