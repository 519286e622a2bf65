-- What records are sought as, and the ids of those that are it.
use Rattle.std.specs.Prelude.{ℕ, Bool, true, false, not, ◌&&◌, ◌==◌, nat_le, if◌then◌else◌, List, [], ◌∷◌, Option, Some, None}
use Rattle.std.specs.Ordering.{is_eq}
use Rattle.wm_base.specs.Key.{key_order}
use Rattle.wm_base.specs.declared.value.Value.{Value}
use Rattle.wm_spec.specs.declared.record.Record.{Record}
use Rattle.wm_spec.specs.declared.record.Record.TheVariants as records
use Rattle.wm_spec.specs.declared.record.stored.Stored.{Stored}
use Rattle.wm_spec.specs.Records.{record_at}
use Rattle.wm_ids.specs.Ids.{placed, without}

-- counters; tables; workspaces; a workspace or a version by its number; a workspace's version of a number, or the
-- versions under one; the savepoints of a workspace, one by its making, those that keep a version, or those of
-- workspaces with a number above 0 that see a version under their workspace's own; workspaces with a number above 0
-- that were born from a version, or see it under their own; a row by its stamp; the pieces of a version on a table and
-- a key; the touches on a table and a key, or the marks; the pieces of a version; whatever is a workspace's own:
-- itself, its versions, savepoints, touches, locks, entries of its log, marks and turns; its marks alone; the touches
-- of a workspace at a position of its log, its turns of a number, or the entries of its log on a table; the locks on a
-- table and a key, those of a workspace, or one by its making
pub data Sought : Type 0 where
  TheCounters : Sought
  Tables : Sought
  Spaces : Sought
  SpaceAt : ℕ → Sought
  VersionAt : ℕ → Sought
  VersionIn : ℕ → ℕ → Sought
  VersionsUnder : ℕ → Sought
  SavepointsOf : ℕ → Sought
  SavepointAt : ℕ → Sought
  KeptAs : ℕ → Sought
  KeptUnder : ℕ → Sought
  BornAs : ℕ → Sought
  SeenUnder : ℕ → Sought
  RowAt : ℕ → Sought
  PieceAt : ℕ → List Value → ℕ → Sought
  TouchesAt : ℕ → List Value → Sought
  MarksAt : ℕ → List Value → Sought
  PiecesIn : ℕ → Sought
  OwnedBy : ℕ → Sought
  MarksIn : ℕ → Sought
  TouchAt : ℕ → ℕ → Sought
  TurnAt : ℕ → ℕ → Sought
  HistsOn : ℕ → ℕ → Sought
  LocksOn : ℕ → List Value → Sought
  LocksOf : ℕ → Sought
  LockAt : ℕ → Sought

-- the record is what is sought
abbrev pub is_sought : Sought → Record → Bool
is_sought TheCounters (records.Counters r) = true
is_sought Tables (records.Table r) = true
is_sought Spaces (records.Space r) = true
is_sought (SpaceAt number) (records.Space r) = r.number == number
is_sought (VersionAt number) (records.Version r) = r.number == number
is_sought (VersionIn space number) (records.Version r) = (r.space == space) && (r.number == number)
is_sought (VersionsUnder parent) (records.Version r) = r.parent == parent
is_sought (SavepointsOf space) (records.Savepoint r) = r.space == space
is_sought (SavepointAt making) (records.Savepoint r) = r.making == making
is_sought (KeptAs version) (records.Savepoint r) = r.version == version
is_sought (KeptUnder version) (records.Savepoint r) = not (r.space == 0) && (r.base_version == version)
is_sought (BornAs version) (records.Space r) = not (r.number == 0) && (r.birth_version == version)
is_sought (SeenUnder version) (records.Space r) = not (r.number == 0) && (r.base_version == version)
is_sought (RowAt stamp) (records.Row r) = r.stamp == stamp
is_sought (PieceAt table key version) (records.Piece r) = (r.cells.table == table) && (is_eq (key_order r.cells.key key) && (r.version == version))
is_sought (TouchesAt table key) (records.Touch r) = (r.cells.table == table) && is_eq (key_order r.cells.key key)
is_sought (MarksAt table key) (records.Mark r) = (r.cells.table == table) && is_eq (key_order r.cells.key key)
is_sought (PiecesIn version) (records.Piece r) = r.version == version
is_sought (OwnedBy space) (records.Space r) = r.number == space
is_sought (OwnedBy space) (records.Version r) = r.space == space
is_sought (OwnedBy space) (records.Savepoint r) = r.space == space
is_sought (OwnedBy space) (records.Touch r) = r.space == space
is_sought (OwnedBy space) (records.Lock r) = r.space == space
is_sought (OwnedBy space) (records.Hist r) = r.space == space
is_sought (OwnedBy space) (records.Mark r) = r.space == space
is_sought (OwnedBy space) (records.Turn r) = r.space == space
is_sought (MarksIn space) (records.Mark r) = r.space == space
is_sought (TouchAt space position) (records.Touch r) = (r.space == space) && (r.position == position)
is_sought (TurnAt space number) (records.Turn r) = (r.space == space) && (r.rebase == number)
is_sought (HistsOn space table) (records.Hist r) = (r.space == space) && (r.cells.table == table)
is_sought (LocksOn table key) (records.Lock r) = (r.cells.table == table) && is_eq (key_order r.cells.key key)
is_sought (LocksOf space) (records.Lock r) = r.space == space
is_sought (LockAt making) (records.Lock r) = r.making == making
is_sought _ _ = false

-- the record is a piece of a table and a key, of any version
abbrev pub is_piece_of : ℕ → List Value → Record → Bool
is_piece_of table key (records.Piece r) = (r.cells.table == table) && is_eq (key_order r.cells.key key)
is_piece_of table key _ = false

-- the record is a touch of a workspace at a position of its log or behind it
abbrev pub is_touch_since : ℕ → ℕ → Record → Bool
is_touch_since space from (records.Touch r) = (r.space == space) && nat_le from r.position
is_touch_since space from _ = false

-- the ids of the records that pass a test
abbrev pub ids_with : (Record → Bool) → List Stored → List ℕ
ids_with p [] = []
ids_with p (s ∷ ss) = if p s.record then s.id ∷ ids_with p ss else ids_with p ss

-- the ids when the record of an id goes
abbrev pub ids_less : (Record → Bool) → ℕ → Option Record → List ℕ → List ℕ
ids_less p id None xs = xs
ids_less p id (Some r) xs = if p r then without id xs else xs

-- the ids when an id has a record
abbrev pub ids_more : (Record → Bool) → ℕ → Option Record → List ℕ → List ℕ
ids_more p id None xs = xs
ids_more p id (Some r) xs = if p r then placed id xs else xs

-- the record of the first id
abbrev pub first_of : List Stored → List ℕ → Option Record
first_of ss [] = None
first_of ss (id ∷ ids) = record_at ss id
