-- Records that stand for a state. The records have one set of pieces, found through the paths of versions; the state has a
-- whole list for each workspace.
use Rattle.std.specs.Prelude.{ℕ, ◌≡◌, ◌+◌, ◌<◌, ◌≤◌, Bool, true, false, ◌&&◌, ◌||◌, ◌==◌, nat_le, nat_lt, max, if◌then◌else◌, List, [], ◌∷◌, map, length, slice_get, take, is_none, is_some, Option, None, Some}
use Rattle.std.specs.Bool.{then_some}
use Rattle.std.specs.List.{All, filter, find, list_all, list_any}
use Rattle.std.specs.Option.{option_or, option_map, option_map_or, option_and_then}
use Rattle.std.specs.Ordering.{is_eq}
use Rattle.wm_base.specs.Key.{key_order}
use Rattle.wm_base.specs.declared.instant.TheConstants.{END}
use Rattle.wm_base.specs.declared.kind.Kind.{Kind}
use Rattle.wm_base.specs.declared.row.Row.{Row}
use Rattle.wm_base.specs.declared.stamp.Stamp.{Stamp}
use Rattle.wm_graph.specs.Parts.{Parts, row_of, space_of, table_of}
use Rattle.wm_graph.specs.Rules.{keep_rules, differ}
use Rattle.wm_period.specs.Pieces.{Held}
use Rattle.wm_net.specs.Conflicts.{Settled, as_entry}
use Rattle.wm_spec.specs.Lists.{Cell, Entry, Told, covers, reach, told, touched}
use Rattle.wm_spec.specs.declared.record.cell_range.CellRange.{CellRange}
use Rattle.wm_spec.specs.declared.record.counters.Counters.{Counters}
use Rattle.wm_spec.specs.declared.record.hist.Hist.{Hist}
use Rattle.wm_spec.specs.declared.record.lock.Lock.{Lock}
use Rattle.wm_spec.specs.declared.record.piece.PieceRecord.{PieceRecord}
use Rattle.wm_spec.specs.declared.record.row.RowRecord.{RowRecord}
use Rattle.wm_spec.specs.declared.record.space.FreezeMode.{FreezeMode}
use Rattle.wm_spec.specs.declared.record.space.Space.{Space}
use Rattle.wm_spec.specs.declared.record.table.Table.{Table}
use Rattle.wm_spec.specs.declared.record.trace.Trace.{Trace}
use Rattle.wm_spec.specs.declared.record.turn.Turn.{Turn as TurnRecord}
use Rattle.wm_spec.specs.declared.record.version.Version.{Version}
use Rattle.wm_tree.specs.Versions.{grow, latest_in}
use Rattle.wm_tree.specs.declared.version.Version.{Version as Node}
use Rattle.wm_spec.specs.declared.record.savepoint.Savepoint.{Savepoint as Record}
use Rattle.wm_state.specs.State.{Durable, Workspace, Savepoint, Turn, content, kept, workspace_of, savepoint_made, savepoints_of, turn_of, turns_of, log_of}

-- ---- what versions hold

-- what an entry says of a cell, but for the row itself
abbrev pub held_of : Told → Held
held_of t = record { stamp = let s : Stamp = record { number = t.stamp } in s; kind = t.kind; gone = is_none t.row }

-- what a piece says of each of its cells
abbrev pub held_by : PieceRecord → Held
held_by x = record { stamp = let s : Stamp = record { number = x.stamp } in s; kind = x.kind; gone = x.gone }

-- the piece is the version's own, and covers the cell
abbrev pub covers_at : PieceRecord → ℕ → Cell → Bool
covers_at x version c =
    (x.version == version)
    && (((x.cells.table == c.table) && is_eq (key_order x.cells.key c.key)) && (nat_le x.cells.from c.time && nat_lt c.time x.cells.till))

-- what a version itself has at a cell
abbrev pub stored_at : List PieceRecord → ℕ → Cell → Option Held
stored_at [] version c = None
stored_at (x ∷ xs) version c = option_or (then_some (covers_at x version c) (held_by x)) (stored_at xs version c)

-- the versions, the newest first
abbrev pub node_of : Version → Node
node_of v = record { number = v.number; space = v.space; parent = v.parent }

abbrev pub newest_first : List Version → List Node
newest_first [] = []
newest_first (v ∷ vs) = grow (node_of v) (newest_first vs)

-- what a version holds at a cell: what the nearest version on its path has there. A parent is older than what stands under it
abbrev pub seen_at : List PieceRecord → List Node → ℕ → Cell → Option Held
seen_at pieces [] version c = None
seen_at pieces (x ∷ older) version c =
    if x.number == version then option_or (stored_at pieces version c) (seen_at pieces older x.parent c) else seen_at pieces older version c

-- the same without the versions from base on
abbrev pub own_at : List PieceRecord → List Node → ℕ → ℕ → Cell → Option Held
own_at pieces [] base version c = None
own_at pieces (x ∷ older) base version c =
    if version == base then None
    else (if x.number == version then option_or (stored_at pieces version c) (own_at pieces older base x.parent c) else own_at pieces older base version c)

-- the newest version of a workspace
abbrev pub latest : Parts → ℕ → ℕ
latest p space = latest_in (newest_first p.versions) space

-- what the newest version of a workspace holds at a cell
abbrev pub shown : Parts → ℕ → Cell → Option Held
shown p space c = seen_at p.pieces (newest_first p.versions) (latest p space) c

-- what the newest version of a workspace holds at a cell above a base
abbrev pub owned : Parts → ℕ → ℕ → Cell → Option Held
owned p base space c = own_at p.pieces (newest_first p.versions) base (latest p space) c

-- what a version holds at a cell
abbrev pub seen : Parts → ℕ → Cell → Option Held
seen p version c = seen_at p.pieces (newest_first p.versions) version c

-- what a version holds at a cell above a base
abbrev pub seen_above : Parts → ℕ → ℕ → Cell → Option Held
seen_above p base version c = own_at p.pieces (newest_first p.versions) base version c

-- ---- paths and ends

-- the first version of a workspace on the path of a version
abbrev pub first_in : List Node → ℕ → ℕ → Option ℕ
first_in [] space version = None
first_in (x ∷ older) space version =
    if x.number == version then (if x.space == space then Some version else first_in older space x.parent) else first_in older space version

-- the path of a version leads up from a point with so many rebases: the first version of its workspace's parent on it is there, and
-- holds at each cell what the workspace's turn of that number took, and its own path leads up from the point that the turn names
pub data Climbs (p : Parts) (spaces : List Workspace) : ℕ → ℕ → ℕ → Type 0 where
  -- LIVE has no parent
  Top : {version n r : ℕ} → n ≡ 0 → Climbs p spaces version n r
  Up : {version n r : ℕ} (u : ℕ) (w : Workspace) (t : Turn) → workspace_of spaces n ≡ Some w → turn_of w r ≡ Some t → first_in (newest_first p.versions) w.parent version ≡ Some u
      → ((c : Cell) → seen p u c ≡ option_map held_of (told t.content c)) → Climbs p spaces u w.parent t.rebases → Climbs p spaces version n r

-- a version is on the path of another one, above a base
abbrev pub is_above : List Node → ℕ → ℕ → ℕ → Bool
is_above [] base version number = false
is_above (x ∷ older) base version number =
    if version == base then false
    else (if x.number == version then (version == number) || is_above older base x.parent number else is_above older base version number)

-- one of the entries ends or begins at a moment for the table and key of these cells
abbrev pub is_end : List Entry → CellRange → ℕ → Bool
is_end es cells moment = list_any (λ (e : Entry). ((e.table == cells.table) && is_eq (key_order e.key cells.key)) && ((e.from == moment) || (e.till == moment))) es

-- both ends of the cells are ends of entries
abbrev pub has_ends : List Entry → CellRange → Bool
has_ends es cells = is_end es cells cells.from && is_end es cells cells.till

-- so it is with each piece on the path of a version above a base
abbrev pub have_ends : Parts → ℕ → ℕ → List Entry → Bool
have_ends p base version es = list_all (λ (x : PieceRecord). if is_above (newest_first p.versions) base version x.version then has_ends es x.cells else true) p.pieces

-- ---- the clauses

-- what the record of a workspace and the workspace itself have in common
pub record SpaceFields : Type 0 where
  pub name : List ℕ
  pub parent : ℕ
  pub born : ℕ
  pub birth_place : ℕ
  pub from : ℕ
  pub log_length : ℕ
  pub rebases : ℕ
  pub next_place : ℕ
  pub next_implicit : ℕ
  pub freeze : FreezeMode
  pub writer : List ℕ

abbrev pub fields_of : Space → SpaceFields
fields_of s = record {
  name = s.name;
  parent = s.parent;
  born = s.born;
  birth_place = s.birth_place;
  from = s.from;
  log_length = s.log_length;
  rebases = s.rebases;
  next_place = s.next_place;
  next_implicit = s.next_implicit;
  freeze = s.freeze;
  writer = s.writer;
}

abbrev pub fields_in : Workspace → SpaceFields
fields_in w = record {
  name = w.name;
  parent = w.parent;
  born = w.born;
  birth_place = w.birth_place;
  from = w.from;
  log_length = length w.lists.log;
  rebases = w.rebases;
  next_place = w.next_place;
  next_implicit = w.next_implicit;
  freeze = w.freeze;
  writer = w.writer;
}

-- the tables by number, which is the order of their making
abbrev pub place_table : Table → List Table → List Table
place_table t [] = t ∷ []
place_table t (u ∷ us) = if nat_lt u.number t.number then u ∷ place_table t us else t ∷ u ∷ us

abbrev pub by_number : List Table → List Table
by_number [] = []
by_number (t ∷ ts) = place_table t (by_number ts)

-- what the record of a savepoint and the savepoint itself have in common
pub record SavepointFields : Type 0 where
  pub making : ℕ
  pub name : List ℕ
  pub implicit : Bool
  pub place : ℕ
  pub moment : ℕ
  pub from : ℕ
  pub log_length : ℕ
  pub rebases : ℕ

abbrev pub saved_fields : Record → SavepointFields
saved_fields x = record {
  making = x.making;
  name = x.name;
  implicit = x.implicit;
  place = x.place;
  moment = x.moment;
  from = x.from;
  log_length = x.log_length;
  rebases = x.rebases;
}

abbrev pub fields_saved : Savepoint → SavepointFields
fields_saved k = record {
  making = k.making;
  name = k.name;
  implicit = k.implicit;
  place = k.place;
  moment = k.moment;
  from = k.from;
  log_length = k.log_length;
  rebases = k.rebases;
}

-- records of savepoints by making
abbrev pub place_making : Record → List Record → List Record
place_making x [] = x ∷ []
place_making x (y ∷ ys) = if nat_lt y.making x.making then y ∷ place_making x ys else x ∷ y ∷ ys

abbrev pub by_making : List Record → List Record
by_making [] = []
by_making (x ∷ xs) = place_making x (by_making xs)

-- the records of the savepoints of a workspace, by making
abbrev pub saved_in : Parts → ℕ → List Record
saved_in p n = by_making (filter (λ (x : Record). x.space == n) p.savepoints)

-- the record of the savepoint of a workspace and a making
abbrev pub saved_as : Parts → ℕ → ℕ → Option Record
saved_as p n making = find (λ (x : Record). (x.space == n) && (x.making == making)) p.savepoints

-- what the record of a log's entry and the entry itself have in common
pub record Logged : Type 0 where
  pub cells : CellRange
  pub stamp : ℕ
  pub kind : Kind
  pub gone : Bool
  pub moment : ℕ
  pub user : List ℕ

abbrev pub logged : Hist → Logged
logged x = record { cells = x.cells; stamp = x.stamp; kind = x.kind; gone = x.gone; moment = x.moment; user = x.user }

abbrev pub logged_as : Entry → Logged
logged_as e = record {
  cells = record { table = e.table; key = e.key; from = e.from; till = e.till };
  stamp = e.stamp;
  kind = e.kind;
  gone = is_none e.row;
  moment = e.moment;
  user = e.user;
}

-- the record of the entry at a position of a workspace's log
abbrev pub hist_at : List Hist → ℕ → ℕ → Option Hist
hist_at hists n position = find (λ (x : Hist). (x.space == n) && (x.position == position)) hists

-- one more than the greatest number of the record of a workspace, 0 where there is none
abbrev pub space_after : List Space → ℕ
space_after [] = 0
space_after (r ∷ rs) = max (r.number + 1) (space_after rs)

-- one more than the greatest making of the record of a savepoint, 1 where there is none
abbrev pub making_behind : List Record → ℕ
making_behind [] = 1
making_behind (x ∷ xs) = max (x.making + 1) (making_behind xs)

-- the one record of counters says what the state counts
pub record CountersStand (p : Parts) (s : Durable) : Type 0 where
  pub counters : Counters
  pub one : p.counters ≡ counters ∷ []
  pub next_stamp : counters.next_stamp ≡ s.next_stamp
  pub last_moment : counters.last_moment ≡ s.last_moment
  pub limit : counters.limit ≡ s.limit
  pub work : counters.work ≡ s.work

-- the records of tables, by number, are the tables
pub record TablesStand (p : Parts) (s : Durable) : Type 0 where
  pub same : by_number p.tables ≡ s.tables

-- each workspace has a record of its fields, and there is no other
pub record SpacesStand (p : Parts) (s : Durable) : Type 0 where
  pub same : (n : ℕ) → option_map fields_of (space_of p.spaces n) ≡ option_map fields_in (workspace_of s.spaces n)

-- each workspace is there once, and there are as many as records of them
pub record OnceStand (p : Parts) (s : Durable) : Type 0 where
  pub numbers : differ (λ (v w : Workspace). v.number == w.number) s.spaces ≡ true
  pub count : length p.spaces ≡ length s.spaces

-- the records of the savepoints of each workspace, by making, have the fields of its savepoints
pub record SavepointsStand (p : Parts) (s : Durable) : Type 0 where
  pub same : (n : ℕ) → map saved_fields (saved_in p n) ≡ map fields_saved (savepoints_of s.spaces n)

-- the row of each entry that a list holds at a cell stands under its stamp
abbrev pub HasRows : Parts → List Entry → Type 0
HasRows p es = (c : Cell) (t : Told) (row : Row) → told es c ≡ Some t → t.row ≡ Some row → option_map (λ (r : RowRecord). r.values) (row_of p.rows t.stamp) ≡ Some row.values

-- the row of an entry, where it has one, stands under its stamp
abbrev pub HasRow : Parts → Entry → Type 0
HasRow p e = (row : Row) → e.row ≡ Some row → option_map (λ (r : RowRecord). r.values) (row_of p.rows e.stamp) ≡ Some row.values

-- a version that a record names, for which workspace, with how many rebases of it, and the content that it tells: the newest of a
-- workspace, that of a savepoint; and, as versions of its parent, those that a workspace with a parent was born from, sees under its
-- own, and saw so at a savepoint
pub data Names (p : Parts) (d : Durable) : ℕ → ℕ → ℕ → List Entry → Type 0 where
  Newest : {n : ℕ} (w : Workspace) → workspace_of d.spaces n ≡ Some w → Names p d (latest p n) n w.rebases (content w)
  Kept : {n : ℕ} (making : ℕ) (w : Workspace) (k : Savepoint) (x : Record) → workspace_of d.spaces n ≡ Some w → savepoint_made making w.savepoints ≡ Some k → saved_as p n making ≡ Some x
      → Names p d x.version n k.rebases (kept k)
  Birth : {n : ℕ} (w : Workspace) (r : Space) (t : Turn) → 0 < n → workspace_of d.spaces n ≡ Some w → space_of p.spaces n ≡ Some r → turn_of w 0 ≡ Some t
      → Names p d r.birth_version w.parent t.rebases t.content
  Base : {n : ℕ} (w : Workspace) (r : Space) (t : Turn) → 0 < n → workspace_of d.spaces n ≡ Some w → space_of p.spaces n ≡ Some r → turn_of w w.rebases ≡ Some t
      → Names p d r.base_version w.parent t.rebases t.content
  KeptBase : {n : ℕ} (making : ℕ) (w : Workspace) (k : Savepoint) (x : Record) (t : Turn) → 0 < n → workspace_of d.spaces n ≡ Some w → savepoint_made making w.savepoints ≡ Some k
      → saved_as p n making ≡ Some x → turn_of w k.rebases ≡ Some t → Names p d x.base_version w.parent t.rebases t.content

-- a version holds at each cell what it tells, its path leads up, and the rows of what it tells are there
pub record Tells (p : Parts) (spaces : List Workspace) (v n r : ℕ) (es : List Entry) : Type 0 where
  pub holds : (c : Cell) → seen p v c ≡ option_map held_of (told es c)
  pub climbs : Climbs p spaces v n r
  pub rows : HasRows p es

-- so does each that is named
pub record NamedStand (p : Parts) (d : Durable) : Type 0 where
  pub tells : (v n r : ℕ) (es : List Entry) → Names p d v n r es → Tells p d.spaces v n r es

-- a base, a version above it, and the entries that are its own: of a workspace, and of each savepoint of it with its number of rebases
pub data Owns (p : Parts) (d : Durable) : ℕ → ℕ → List Entry → Type 0 where
  Own : (n : ℕ) (w : Workspace) (r : Space) → workspace_of d.spaces n ≡ Some w → space_of p.spaces n ≡ Some r → Owns p d r.base_version (latest p n) w.lists.own
  KeptOwn : (n making : ℕ) (w : Workspace) (k : Savepoint) (x : Record) → workspace_of d.spaces n ≡ Some w → savepoint_made making w.savepoints ≡ Some k → saved_as p n making ≡ Some x
      → k.rebases ≡ w.rebases → Owns p d x.base_version x.version k.own

-- what stands above a base covers the cells of these entries and no others, and each piece there ends where they do
pub record Covers (p : Parts) (base version : ℕ) (es : List Entry) : Type 0 where
  pub cells : (c : Cell) → is_some (seen_above p base version c) ≡ touched es c
  pub ends : have_ends p base version es ≡ true

-- so it is of each, and no savepoint has more rebases than its workspace
pub record OwnsStand (p : Parts) (d : Durable) : Type 0 where
  pub covers : (base version : ℕ) (es : List Entry) → Owns p d base version es → Covers p base version es
  pub past : (n making : ℕ) (w : Workspace) (k : Savepoint) → workspace_of d.spaces n ≡ Some w → savepoint_made making w.savepoints ≡ Some k → k.rebases ≤ w.rebases

-- ---- turns

-- what the record of a turn and the turn itself have in common
pub record TurnFields : Type 0 where
  pub log_length : ℕ
  pub rebases : ℕ

abbrev pub turned : TurnRecord → TurnFields
turned x = record { log_length = x.log_length; rebases = x.rebases }

abbrev pub turned_in : Turn → TurnFields
turned_in t = record { log_length = t.log_length; rebases = t.rebases }

-- the record of a turn of a workspace
abbrev pub turn_at : List TurnRecord → ℕ → ℕ → Option TurnRecord
turn_at turns n number = find (λ (x : TurnRecord). (x.space == n) && (x.rebase == number)) turns

-- a workspace with a parent has a turn for its birth and one for each rebase; each turn has a record of its fields, and a turn that a
-- workspace does not have has none
pub record TurnsStand (p : Parts) (d : Durable) : Type 0 where
  pub counted : (n : ℕ) (w : Workspace) → 0 < n → workspace_of d.spaces n ≡ Some w → length w.turns ≡ w.rebases + 1
  pub same : (n number : ℕ) → option_map turned (turn_at p.turns n number) ≡ option_map turned_in (slice_get (turns_of d.spaces n) number)

-- ---- touched cells

-- the cells have this one
abbrev pub in_cells : CellRange → Cell → Bool
in_cells r c = ((r.table == c.table) && is_eq (key_order r.key c.key)) && (nat_le r.from c.time && nat_lt c.time r.till)

-- one more than the greatest last position of the touches of a workspace, made below a place, that cover a cell; 0 where there is none
abbrev pub reached : List Trace → ℕ → ℕ → Cell → ℕ
reached [] n below c = 0
reached (x ∷ xs) n below c = max (if ((x.space == n) && nat_lt x.place below) && in_cells x.cells c then x.position + 1 else 0) (reached xs n below c)

-- the touches of a workspace made below a place end where entries do
abbrev pub touches_end : List Trace → ℕ → ℕ → List Entry → Bool
touches_end xs n below es = list_all (λ (x : Trace). if (x.space == n) && nat_lt x.place below then has_ends es x.cells else true) xs

-- the touches of a workspace made below a place tell a log: at each cell the last position of an entry that covers it, and they end
-- where entries do
pub record TouchesTell (touches : List Trace) (n below : ℕ) (log : List Entry) : Type 0 where
  pub reaches : (c : Cell) → reached touches n below c ≡ reach log c
  pub ends : touches_end touches n below log ≡ true

-- all of them tell the log of the workspace, and those below the place of a savepoint what the log was there
pub record TouchesStand (p : Parts) (d : Durable) : Type 0 where
  pub latest : (n : ℕ) (w : Workspace) → workspace_of d.spaces n ≡ Some w → TouchesTell p.touches n w.next_place w.lists.log
  pub kept : (n making : ℕ) (w : Workspace) (k : Savepoint) → workspace_of d.spaces n ≡ Some w → savepoint_made making w.savepoints ≡ Some k → TouchesTell p.touches n k.place (take k.log_length w.lists.log)

-- ---- settled cells

-- one more than the greatest position of the marks of a workspace that were made at a place and cover a cell; 0 where there is none
abbrev pub marked_at : List Trace → ℕ → ℕ → Cell → ℕ
marked_at [] n place c = 0
marked_at (x ∷ xs) n place c = max (if ((x.space == n) && (x.place == place)) && in_cells x.cells c then x.position + 1 else 0) (marked_at xs n place c)

-- the same of what was settled in a workspace
abbrev pub settled_from : List Settled → ℕ → Cell → ℕ
settled_from [] place c = 0
settled_from (m ∷ ms) place c = max (if (m.place == place) && covers (as_entry m) c then m.position + 1 else 0) (settled_from ms place c)

-- a mark is over a period
pub record IsRealMark (m : Settled) : Type 0 where
  pub some : m.from < m.till
  pub till : m.till ≤ END

-- the marks of each workspace have records that say the same, place by place, and there is no other
pub record MarksStand (p : Parts) (d : Durable) : Type 0 where
  pub same : (n : ℕ) (w : Workspace) (place : ℕ) (c : Cell) → workspace_of d.spaces n ≡ Some w → marked_at p.marks n place c ≡ settled_from w.settled place c
  pub real : (n : ℕ) (w : Workspace) → workspace_of d.spaces n ≡ Some w → All IsRealMark w.settled

-- ---- locks

-- locks by making
abbrev pub place_lock : Lock → List Lock → List Lock
place_lock x [] = x ∷ []
place_lock x (y ∷ ys) = if nat_lt y.making x.making then y ∷ place_lock x ys else x ∷ y ∷ ys

abbrev pub locks_by_making : List Lock → List Lock
locks_by_making [] = []
locks_by_making (x ∷ xs) = place_lock x (locks_by_making xs)

-- the records of locks, by making, are the locks
pub record LocksStand (p : Parts) (s : Durable) : Type 0 where
  pub same : locks_by_making p.locks ≡ s.locks

-- ---- logs

-- the table of this number keeps its history
abbrev pub has_history : List Table → ℕ → Bool
has_history tables number = option_map_or (λ (t : Table). t.history) (table_of tables number) false

-- the table of this number is ready for rows
abbrev pub is_ready : List Table → ℕ → Bool
is_ready tables number = option_map_or (λ (t : Table). t.versioned) (table_of tables number) false

-- each position of each workspace's log whose entry is of a table with history has a record of the entry, and there is no other
pub record HistsStand (p : Parts) (d : Durable) : Type 0 where
  pub same : (n position : ℕ) → option_map logged (hist_at p.hists n position) ≡ option_and_then (λ (e : Entry). then_some (has_history d.tables e.table) (logged_as e)) (slice_get (log_of d.spaces n) position)

-- an entry over a period, of a table that is ready for rows
pub record IsReal (tables : List Table) (e : Entry) : Type 0 where
  pub some : e.from < e.till
  pub till : e.till ≤ END
  pub on : is_ready tables e.table ≡ true

-- so is each of a log, and of what a workspace or a savepoint has of its own
pub record EntriesStand (d : Durable) : Type 0 where
  pub logs : (n : ℕ) → All (IsReal d.tables) (log_of d.spaces n)
  pub own : (n : ℕ) (w : Workspace) → workspace_of d.spaces n ≡ Some w → All (IsReal d.tables) w.lists.own
  pub kept : (n making : ℕ) (w : Workspace) (k : Savepoint) → workspace_of d.spaces n ≡ Some w → savepoint_made making w.savepoints ≡ Some k → All (IsReal d.tables) k.own

-- the row of each entry of a log that is of a table with history stands under its stamp, and so do the rows of what a turn took
pub record RowsStand (p : Parts) (d : Durable) : Type 0 where
  pub logs : (n : ℕ) → All (λ (e : Entry). has_history d.tables e.table ≡ true → HasRow p e) (log_of d.spaces n)
  pub turns : (n number : ℕ) (w : Workspace) (t : Turn) → workspace_of d.spaces n ≡ Some w → turn_of w number ≡ Some t → HasRows p t.content

-- ---- all of it

-- the records agree with the state in counters, tables, workspaces and savepoints, whatever these hold
pub record FieldsStand (p : Parts) (s : Durable) : Type 0 where
  pub counters : CountersStand p s
  pub tables : TablesStand p s
  pub spaces : SpacesStand p s
  pub once : OnceStand p s
  pub savepoints : SavepointsStand p s

-- the records keep every rule and stand for the state
pub record Stands (p : Parts) (s : Durable) : Type 0 where
  pub rules : keep_rules p ≡ true
  pub counters : CountersStand p s
  pub tables : TablesStand p s
  pub spaces : SpacesStand p s
  pub once : OnceStand p s
  pub savepoints : SavepointsStand p s
  pub named : NamedStand p s
  pub owns : OwnsStand p s
  pub turns : TurnsStand p s
  pub touches : TouchesStand p s
  pub marks : MarksStand p s
  pub locks : LocksStand p s
  pub hists : HistsStand p s
  pub entries : EntriesStand s
  pub rows : RowsStand p s
