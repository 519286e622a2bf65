-- What is asked of records before edits, and what changes of records are to make of them.
use Rattle.std.specs.Prelude.{ℕ, ◌≡◌, ◌≤◌, ◌<◌, ◌+◌, ◌*◌, ◌==◌, ◌&&◌, not, nat_le, nat_lt, Bool, true, false, List, [], ◌∷◌, ◌++◌, map, length, Option, Some, None, is_some}
use Rattle.std.specs.List.{All, filter, find, list_all, list_any}
use Rattle.std.specs.Option.{option_map_or}
use Rattle.std.specs.Ordering.{is_gt, nat_cmp, ordering_then}
use Rattle.std.specs.Str.{bytes_eq}
use Rattle.std.specs.declared.cmp.Ordering.{Ordering}
use Rattle.wm_base.specs.Key.{key_order}
use Rattle.wm_base.specs.declared.instant.TheConstants.{END}
use Rattle.wm_base.specs.declared.row.Row.{Row}
use Rattle.wm_base.specs.declared.value.Value.{Value}
use Rattle.wm_base.specs.declared.value.Value.TheVariants as values
use Rattle.wm_graph.specs.Parts.{Parts, parts_of, row_of, space_of, table_of}
use Rattle.wm_graph.specs.Rules.{are_cells, as_drawn, collide, differ, has_key, is_short, is_table, keep_rules}
use Rattle.wm_spec.specs.Lists.{Cell, Entry}
use Rattle.wm_spec.specs.Records.{AreChanges, record_at}
use Rattle.wm_net.specs.Conflicts.{as_entry}
use Rattle.wm_spec.specs.declared.record.Record.{Record}
use Rattle.wm_spec.specs.declared.record.Record.TheVariants as records
use Rattle.wm_spec.specs.declared.record.batch.Change.{Change}
use Rattle.wm_spec.specs.declared.record.cell_range.CellRange.{CellRange}
use Rattle.wm_spec.specs.declared.record.counters.Counters.{Counters}
use Rattle.wm_spec.specs.declared.record.piece.PieceRecord.{PieceRecord}
use Rattle.wm_spec.specs.declared.record.row.RowRecord.{RowRecord}
use Rattle.wm_spec.specs.declared.record.savepoint.Savepoint.{Savepoint}
use Rattle.wm_spec.specs.declared.record.space.Space.{Space}
use Rattle.wm_spec.specs.declared.record.stored.Stored.{Stored}
use Rattle.wm_spec.specs.declared.record.table.Table.{Table}
use Rattle.wm_spec.specs.declared.record.turn.Turn.{Turn}
use Rattle.wm_state.specs.ById.{applied}
use Rattle.wm_state.specs.Drawing.{are_sorted}
use Rattle.wm_state.specs.Effects.{IsFree, IsLeaf}
use Rattle.wm_state.specs.Editing.{counter_limit, drafted_by, entry_of, is_other, number_limit, settled_by, stand_of, work_of}
use Rattle.wm_state.specs.Entries.{AreStamped, entry_keys, is_well, pieces_of}
use Rattle.wm_state.specs.Points.{HasRoom, Point, implicit_of, next_place_at, point_at}
use Rattle.wm_state.specs.Standing.{FieldsStand, IsReal, Stands, by_number, has_history, latest, newest_first, owned, saved_as, space_after}
use Rattle.wm_state.specs.State.{Durable, table_named}
use Rattle.wm_state.specs.declared.edit.Edit.{Edit}
use Rattle.wm_state.specs.declared.edit.NewEntry.{NewEntry}
use Rattle.wm_state.specs.declared.edit.NewLock.{NewLock}
use Rattle.wm_state.specs.declared.edit.NewMark.{NewMark}
use Rattle.wm_state.specs.declared.edit.Edit.TheVariants as edits

-- ---- texts

-- a record can keep the value: it is no empty text
abbrev pub can_keep : Value → Bool
can_keep (values.Text t) = nat_lt 0 (length t)
can_keep v = true

-- so are all values of an entry
abbrev pub can_keep_entry : Entry → Bool
can_keep_entry e = list_all can_keep e.key && option_map_or (λ row. list_all can_keep row.values) e.row true

-- so are all values in a record
abbrev pub is_kept : Record → Bool
is_kept (records.Row r) = list_all can_keep r.values
is_kept (records.Piece x) = list_all can_keep x.cells.key
is_kept (records.Touch x) = list_all can_keep x.cells.key
is_kept (records.Lock x) = list_all can_keep x.cells.key
is_kept (records.Hist x) = list_all can_keep x.cells.key
is_kept (records.Mark x) = list_all can_keep x.cells.key
is_kept r = true

-- so is what comes by a change
abbrev pub is_kept_change : Change → Bool
is_kept_change c = option_map_or is_kept c.becomes true

-- ---- entries that were made before

-- the row of an entry, where it has one, is the one of its stamp
abbrev pub IsCopied : Parts → Entry → Type 0
IsCopied p e = (row : Row) → e.row ≡ Some row → row_of p.rows e.stamp ≡ Some (record { stamp = e.stamp; table = e.table; values = row.values })

-- their stamps were given, and they are real and fit their tables
pub record AreOld (p : Parts) (c : Counters) (es : List Entry) : Type 0 where
  pub stamps : list_all (λ (e : Entry). nat_lt e.stamp c.next_stamp) es ≡ true
  pub real : All (IsReal p.tables) es
  pub well : list_all (is_well (table_of p.tables)) es ≡ true
  pub users : list_all (λ (e : Entry). is_short e.user) es ≡ true

-- entries by table, and in one table by key
abbrev pub entry_order : Entry → Entry → Ordering
entry_order e f = ordering_then (nat_cmp e.table f.table) (key_order e.key f.key)

-- none is of a table and key above those of the next, so those of one table and key stand together
abbrev pub are_in_order : List Entry → Bool
are_in_order [] = true
are_in_order (e ∷ []) = true
are_in_order (e ∷ f ∷ fs) = not (is_gt (entry_order e f)) && are_in_order (f ∷ fs)

-- ---- what is asked of the records

-- there is room for so much work, which is some, and the moment is below the end
pub record CanWork (p : Parts) (m work : ℕ) : Type 0 where
  pub counters : Counters
  pub one : p.counters ≡ counters ∷ []
  pub some : nat_lt 0 work ≡ true
  pub room : nat_lt counter_limit (counters.work + work) ≡ false
  pub early : nat_lt m END ≡ true

-- there is room for the table, whose number is above all others and whose name is new
pub record CanCreate (p : Parts) (t : Table) : Type 0 where
  pub is : is_table t ≡ true
  pub room : nat_lt (length p.tables) 256 ≡ true
  pub number : list_all (λ (u : Table). nat_lt u.number t.number) p.tables ≡ true
  pub name : list_any (λ (u : Table). bytes_eq u.name t.name) p.tables ≡ false

-- the table of the name is there, with a key, and not ready yet
pub record CanEnable (p : Parts) (name : List ℕ) : Type 0 where
  pub table : Table
  pub named : table_named name (by_number p.tables) ≡ Some table
  pub off : table.versioned ≡ false
  pub key : has_key table ≡ true

-- the workspace is there, and the log has room; there are entries, all of a table that is ready for rows, which they fit, with the stamps
-- that come next; no key is above the next
pub record CanAppend (p : Parts) (n : ℕ) (es : List Entry) : Type 0 where
  pub space : Space
  pub there : space_of p.spaces n ≡ Some space
  pub counters : Counters
  pub one : p.counters ≡ counters ∷ []
  pub table : Table
  pub tabled : table_of p.tables table.number ≡ Some table
  pub on : table.versioned ≡ true
  pub some : nat_lt 0 (length es) ≡ true
  pub stamped : AreStamped table.number counters.next_stamp es
  pub well : list_all (is_well (table_of p.tables)) es ≡ true
  pub users : list_all (λ (e : Entry). is_short e.user) es ≡ true
  pub kept : list_all can_keep_entry es ≡ true
  pub sorted : are_sorted (entry_keys es) ≡ true
  pub left : nat_le (counters.next_stamp + length es) (counters.limit + 1) ≡ true
  pub short : nat_lt counter_limit (space.log_length + length es) ≡ false

-- the workspace is there and may have a savepoint more, whose name is new in it
pub record CanSave (p : Parts) (n : ℕ) (name : List ℕ) : Type 0 where
  pub space : Space
  pub there : space_of p.spaces n ≡ Some space
  pub short : is_short name ≡ true
  pub room : HasRoom p space name
  pub places : nat_lt number_limit (space.next_place + 1) ≡ false

-- the workspace is there and may have an implicit savepoint more, where one stands in it so; there may be a workspace more, whose name
-- is new
pub record CanBear (p : Parts) (m n : ℕ) (at : Option ℕ) (name : List ℕ) : Type 0 where
  pub space : Space
  pub there : space_of p.spaces n ≡ Some space
  pub point : Point
  pub stands : point_at p space m (stand_of at) ≡ Some point
  pub short : is_short name ≡ true
  pub new : find (λ (r : Space). bytes_eq name r.name) p.spaces ≡ None
  pub few : nat_le 1024 (length p.spaces) ≡ false
  pub room : HasRoom p space (implicit_of space)
  pub places : nat_lt number_limit (next_place_at space (stand_of at)) ≡ false
  pub implicits : nat_lt number_limit (space.next_implicit + 1) ≡ false
  pub numbers : nat_lt number_limit (space_after p.spaces) ≡ false

-- the workspace is there and has the savepoint of the making, since which it was not rebased
pub record CanRestore (p : Parts) (n making : ℕ) : Type 0 where
  pub space : Space
  pub there : space_of p.spaces n ≡ Some space
  pub savepoint : Savepoint
  pub saved : saved_as p n making ≡ Some savepoint
  pub based : savepoint.rebases ≡ space.rebases

-- the workspace is there and is not LIVE, and no record of a workspace has it as its parent, that of LIVE among them, of whose parent no
-- rule speaks
pub record CanRemove (p : Parts) (n : ℕ) : Type 0 where
  pub some : 0 < n
  pub there : is_some (space_of p.spaces n) ≡ true
  pub childless : list_all (λ (r : Space). is_other n r.parent) p.spaces ≡ true

-- the workspace is there and may have an implicit savepoint more
pub record CanKeep (p : Parts) (n : ℕ) : Type 0 where
  pub space : Space
  pub there : space_of p.spaces n ≡ Some space
  pub room : HasRoom p space (implicit_of space)
  pub places : nat_lt number_limit (space.next_place + 1) ≡ false
  pub implicits : nat_lt number_limit (space.next_implicit + 1) ≡ false

-- the workspace is there, and its log has room; there are entries, made before and in order, no two of which share a cell, whose values can
-- be kept and whose rows are there
pub record CanReplay (p : Parts) (n : ℕ) (es : List Entry) : Type 0 where
  pub space : Space
  pub there : space_of p.spaces n ≡ Some space
  pub counters : Counters
  pub one : p.counters ≡ counters ∷ []
  pub some : nat_lt 0 (length es) ≡ true
  pub old : AreOld p counters es
  pub kept : list_all can_keep_entry es ≡ true
  pub sorted : are_in_order es ≡ true
  pub apart : differ collide (pieces_of 0 es) ≡ true
  pub copied : All (IsCopied p) es
  pub short : nat_lt counter_limit (space.log_length + length es) ≡ false

-- the workspace is there, and its log has room; there are entries, made before and in order, whose values can be kept, and the rows of
-- those of tables with history are there
pub record CanGain (p : Parts) (n : ℕ) (es : List Entry) : Type 0 where
  pub space : Space
  pub there : space_of p.spaces n ≡ Some space
  pub counters : Counters
  pub one : p.counters ≡ counters ∷ []
  pub some : nat_lt 0 (length es) ≡ true
  pub old : AreOld p counters es
  pub kept : list_all can_keep_entry es ≡ true
  pub sorted : are_in_order es ≡ true
  pub copied : All (λ (e : Entry). has_history p.tables e.table ≡ true → IsCopied p e) es
  pub short : nat_lt counter_limit (space.log_length + length es) ≡ false

-- the record is the turn of a workspace that has this number
abbrev pub is_turn : ℕ → ℕ → Turn → Bool
is_turn n number x = (x.space == n) && (x.rebase == number)

-- the workspace is there, is not LIVE, may be rebased once more and has no such turn yet; where what it has of its own stays, each key of
-- that can be kept
pub record CanRebase (p : Parts) (n : ℕ) (emptied : Bool) : Type 0 where
  pub some : 0 < n
  pub space : Space
  pub there : space_of p.spaces n ≡ Some space
  pub rebases : nat_lt number_limit (space.rebases + 1) ≡ false
  pub unturned : list_any (is_turn n (space.rebases + 1)) p.turns ≡ false
  pub kept : emptied ≡ false → (c : Cell) → is_some (owned p space.base_version n c) ≡ true → list_all can_keep c.key ≡ true

-- the cells of a mark
abbrev pub cells_in : NewMark → CellRange
cells_in m = record { table = m.table; key = m.key; from = m.period.from; till = m.period.till }

-- marks as pieces of a version
abbrev pub mark_piece : ℕ → NewMark → PieceRecord
mark_piece place m = as_drawn (record { space = 0; place = place; cells = cells_in m; position = m.position })

-- none is of a table and key above those of the next
abbrev pub mark_entry : NewMark → Entry
mark_entry m = as_entry (settled_by 0 m)

-- the workspace is there; there are marks, in order, no two of which share a cell, on cells of tables that are there, whose keys can be
-- kept
pub record CanSettle (p : Parts) (n : ℕ) (ms : List NewMark) : Type 0 where
  pub space : Space
  pub there : space_of p.spaces n ≡ Some space
  pub some : nat_lt 0 (length ms) ≡ true
  pub cells : list_all (λ (m : NewMark). are_cells (table_of p.tables) (cells_in m)) ms ≡ true
  pub kept : list_all (λ (m : NewMark). list_all can_keep m.key) ms ≡ true
  pub sorted : are_in_order (map mark_entry ms) ≡ true
  pub apart : differ collide (map (mark_piece 0) ms) ≡ true

-- the cells of a lock that is to be made
abbrev pub cells_locked : NewLock → CellRange
cells_locked x = record { table = x.table; key = x.key; from = x.period.from; till = x.period.till }

-- the workspace is there, and the user is short; there are cells, of tables that are there, whose keys can be kept
pub record CanLock (p : Parts) (n : ℕ) (user : List ℕ) (xs : List NewLock) : Type 0 where
  pub space : Space
  pub there : space_of p.spaces n ≡ Some space
  pub some : nat_lt 0 (length xs) ≡ true
  pub short : is_short user ≡ true
  pub cells : list_all (λ (x : NewLock). are_cells (table_of p.tables) (cells_locked x)) xs ≡ true
  pub kept : list_all (λ (x : NewLock). list_all can_keep x.key) xs ≡ true

-- the workspace is there, and the one who may write in it is short
pub record CanFreeze (p : Parts) (n : ℕ) (writer : List ℕ) : Type 0 where
  pub space : Space
  pub there : space_of p.spaces n ≡ Some space
  pub short : is_short writer ≡ true

-- what is asked before an edit at a moment
abbrev pub CanEdit : Parts → ℕ → Edit → Type 0
CanEdit p m (edits.Create t) = CanCreate p t
CanEdit p m (edits.Enable name valid history) = CanEnable p name
CanEdit p m (edits.Append n entries) = CanAppend p n (map entry_of entries)
CanEdit p m (edits.Save n name) = CanSave p n name
CanEdit p m (edits.Bear n at name) = CanBear p m n at name
CanEdit p m (edits.Restore n making) = CanRestore p n making
CanEdit p m (edits.Remove n) = CanRemove p n
CanEdit p m (edits.Keep n) = CanKeep p n
CanEdit p m (edits.Replay n entries) = CanReplay p n (map entry_of entries)
CanEdit p m (edits.Gain n entries) = CanGain p n (map entry_of entries)
CanEdit p m (edits.Rebase n emptied) = CanRebase p n emptied
CanEdit p m (edits.Settle n marks) = CanSettle p n marks
CanEdit p m (edits.Lock n mode user cells) = CanLock p n user cells
CanEdit p m (edits.Unlock makings) = Unit {0}
CanEdit p m (edits.Freeze n mode writer) = CanFreeze p n writer

-- ---- what is made of them

-- the edit makes a savepoint, or a workspace and so a savepoint
abbrev pub is_fork : Edit → Bool
is_fork (edits.Save n name) = true
is_fork (edits.Bear n at name) = true
is_fork e = false

-- the edit leaves the turns of all workspaces
abbrev pub leaves_turns : Edit → Bool
leaves_turns (edits.Keep n) = true
leaves_turns (edits.Replay n entries) = true
leaves_turns (edits.Gain n entries) = true
leaves_turns (edits.Settle n marks) = true
leaves_turns (edits.Lock n mode user cells) = true
leaves_turns (edits.Unlock makings) = true
leaves_turns (edits.Freeze n mode writer) = true
leaves_turns e = false

-- but for counters, workspaces, versions, savepoints and turns the records are what they were
abbrev pub ForksAlone : Parts → Parts → Type 0
ForksAlone p q = record q { counters = p.counters; spaces = p.spaces; versions = p.versions; savepoints = p.savepoints; turns = p.turns } ≡ p

-- records differ at six ids at most, and but for what forks change they are what they were
pub record ChangesFew (old new : List Stored) : Type 0 where
  pub ids : List ℕ
  pub few : length ids ≤ 6
  pub others : (id : ℕ) → list_any (λ k. k == id) ids ≡ false → record_at new id ≡ record_at old id
  pub rest : ForksAlone (parts_of old) (parts_of new)

-- at most so many records are put or dropped, and but for what forks change they are what they were
pub record FewChanges (rs : List Stored) (most : ℕ) (changes : List Change) : Type 0 where
  pub count : length changes ≤ most
  pub rest : ForksAlone (parts_of rs) (parts_of (applied changes rs))

-- the one record of counters tells of so much more work
pub record WorksOn (old new : Parts) (work : ℕ) : Type 0 where
  pub before : Counters
  pub one : old.counters ≡ before ∷ []
  pub after : Counters
  pub same : new.counters ≡ after ∷ []
  pub more : after.work ≡ before.work + work

-- nothing stands under the newest version of a workspace, and nothing names it
abbrev pub IsSpare : Parts → ℕ → Type 0
IsSpare p n = IsLeaf (latest p n) (newest_first p.versions) × IsFree p (latest p n)

-- changes make of records what edits make of each state that they stand for, and of each state with which they agree in counters,
-- tables, workspaces and savepoints, with so much work: the rules stay kept, no id changes twice, each row stays under its id, each value
-- that comes can be kept, without edits there are no changes, where all edits make savepoints or workspaces, there are six changes at
-- most for each, entries that come into a workspace whose newest version is spare make no version, and edits that leave turns leave their
-- records
pub record DraftsBy (work : ℕ) (rs : List Stored) (m : ℕ) (es : List Edit) (changes : List Change) : Type 0 where
  pub keeps : keep_rules (parts_of (applied changes rs)) ≡ true
  pub once : AreChanges changes
  pub stands : (s : Durable) → Stands (parts_of rs) s → Stands (parts_of (applied changes rs)) (drafted_by work m es s)
  pub fields : (s : Durable) → FieldsStand (parts_of rs) s → FieldsStand (parts_of (applied changes rs)) (drafted_by work m es s)
  pub rows : (id : ℕ) (r : RowRecord) → record_at rs id ≡ Some (records.Row r) → record_at (applied changes rs) id ≡ Some (records.Row r)
  pub kept : list_all is_kept_change changes ≡ true
  pub counted : (es ≡ [] → ⊥) → WorksOn (parts_of rs) (parts_of (applied changes rs)) work
  pub nothing : es ≡ [] → changes ≡ []
  pub few : list_all is_fork es ≡ true → FewChanges rs (6 * length es) changes
  pub spared : (n : ℕ) (entries : List NewEntry) → es ≡ edits.Append n entries ∷ [] → IsSpare (parts_of rs) n → (parts_of (applied changes rs)).versions ≡ (parts_of rs).versions
  pub turned : list_all leaves_turns es ≡ true → (parts_of (applied changes rs)).turns ≡ (parts_of rs).turns

-- and with the work of a line
abbrev pub Drafts : List Stored → ℕ → List Edit → List Change → Type 0
Drafts rs m es changes = DraftsBy (work_of es) rs m es changes

-- ---- what is asked before edits

-- each edit can be made of whatever the changes for the edits before it make of the records
abbrev pub CanEditAll : List Stored → ℕ → List Edit → Type 0
CanEditAll rs m [] = Unit {0}
CanEditAll rs m (e ∷ es) = CanEdit (parts_of rs) m e × ((work : ℕ) (changes : List Change) → DraftsBy work rs m (e ∷ []) changes → CanEditAll (applied changes rs) m es)

-- the most edits that a line makes
abbrev pub edit_limit : ℕ
edit_limit = 2048

-- where a line makes edits, there is room for its work, they are not too many, and each can be made
abbrev pub CanDraft : List Stored → ℕ → List Edit → Type 0
CanDraft rs m [] = Unit {0}
CanDraft rs m (e ∷ es) = CanWork (parts_of rs) m (work_of (e ∷ es)) × (length (e ∷ es) ≤ edit_limit) × CanEditAll rs m (e ∷ es)

-- ---- changes behind others

-- a change of an id
abbrev pub is_change_of : ℕ → Change → Bool
is_change_of id c = c.id == id

-- changes, and behind them others, which take the place of those of their ids
abbrev pub followed_by : List Change → List Change → List Change
followed_by changes later = filter (λ (c : Change). not (list_any (is_change_of c.id) later)) changes ++ later
