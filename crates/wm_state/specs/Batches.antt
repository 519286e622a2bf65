-- The batches that lines make, as changes of records.
use Rattle.std.specs.Prelude.{ℕ, ◌≡◌, ◌+◌, ◌<◌, ◌==◌, ◌&&◌, Bool, true, not, List, [], ◌∷◌, ◌++◌, Option, Some, None}
use Rattle.std.specs.List.{list_any}
use Rattle.std.specs.Ordering.{is_eq}
use Rattle.wm_base.specs.Key.{key_order}
use Rattle.wm_base.specs.declared.value.Value.{Value}
use Rattle.wm_spec.specs.Records.{record_at}
use Rattle.wm_spec.specs.declared.record.stored.Stored.{Stored}
use Rattle.wm_spec.specs.declared.record.Record.{Record}
use Rattle.wm_spec.specs.declared.record.Record.TheVariants as records
use Rattle.wm_spec.specs.declared.record.batch.Change.{Change}
use Rattle.wm_spec.specs.declared.record.counters.Counters.{Counters}
use Rattle.wm_spec.specs.declared.record.piece.PieceRecord.{PieceRecord}
use Rattle.wm_spec.specs.declared.record.savepoint.Savepoint.{Savepoint}
use Rattle.wm_spec.specs.declared.record.space.Space.{Space}
use Rattle.wm_spec.specs.declared.record.version.Version.{Version}
use Rattle.wm_spec.specs.declared.record.table.Table.{Table}
use Rattle.wm_spec.specs.declared.record.turn.Turn.{Turn}
use Rattle.wm_state.specs.State.{Readiness}

-- a record takes the place of the one of its id, or is new
abbrev pub put : ℕ → Record → Change
put id r = record { id = id; becomes = Some r }

-- the record of an id goes
abbrev pub drop_one : ℕ → Change
drop_one id = let nothing : Option Record = None in record { id = id; becomes = nothing }

-- a table is made
abbrev pub create_batch : ℕ → Counters → ℕ → Table → List Change
create_batch counters_id counters id t = put counters_id (records.Counters counters) ∷ put id (records.Table t) ∷ []

-- a table becomes so ready for rows
abbrev pub ready : Readiness → Table → Table
ready how t = record t { versioned = true; valid = how.valid; history = how.history }

abbrev pub enable_batch : ℕ → Counters → ℕ → Readiness → Table → List Change
enable_batch counters_id counters id how t = put counters_id (records.Counters counters) ∷ put id (records.Table (ready how t)) ∷ []

-- a workspace has a version more
abbrev pub fork_batch : ℕ → Counters → ℕ → Version → List Change
fork_batch counters_id counters id version = put counters_id (records.Counters counters) ∷ put id (records.Version version) ∷ []

-- a savepoint is made; the workspace's record has counted it
abbrev pub savepoint_batch : ℕ → Counters → ℕ → Space → ℕ → Savepoint → List Change
savepoint_batch counters_id counters space_id space id x =
    put counters_id (records.Counters counters) ∷ put space_id (records.Space space) ∷ put id (records.Savepoint x) ∷ []

-- a workspace is born at a savepoint that is made for it, with a version of its own and the turn of its birth
abbrev pub birth_batch : ℕ → Counters → ℕ → Space → ℕ → Savepoint → Space → Version → Turn → List Change
birth_batch counters_id counters space_id space id x child version turn =
    savepoint_batch counters_id counters space_id space id x
    ++ put (id + 1) (records.Space child) ∷ put (id + 2) (records.Version version) ∷ put (id + 3) (records.Turn turn) ∷ []

-- ---- what goes, and where new records come

-- the piece is of this version, table and key
abbrev pub is_in : ℕ → ℕ → List Value → PieceRecord → Bool
is_in version table key y = (y.version == version) && ((y.cells.table == table) && is_eq (key_order y.cells.key key))

-- a piece is not of them
abbrev pub is_out : ℕ → ℕ → List Value → PieceRecord → Bool
is_out version table key y = not (is_in version table key y)

-- a record is kept but for the pieces that a test lets go
abbrev pub keeps : (PieceRecord → Bool) → Record → Bool
keeps test (records.Piece x) = test x
keeps test r = true

-- the id is one of those that are dropped
abbrev pub is_dropped : List ℕ → ℕ → Bool
is_dropped ids id = list_any (λ d. d == id) ids

-- the ids are those of the records that a test does not keep
abbrev pub AreDropped : (Record → Bool) → List ℕ → List Stored → Type 0
AreDropped keep ids ss = (id : ℕ) (r : Record) → record_at ss id ≡ Some r → is_dropped ids id ≡ not (keep r)

-- all ids are below
abbrev pub AllUnder : ℕ → List Stored → Type 0
AllUnder id [] = Unit {0}
AllUnder id (s ∷ ss) = (s.id < id) × AllUnder id ss
