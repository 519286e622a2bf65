-- What is put for a savepoint, and for a workspace that is born at one.
use Rattle.std.proofs.Common.{◌≡◌, ℕ, ◌+◌, true, false, List, [], ◌∷◌, ◌++◌, refl}
use Rattle.wm_gained.specs.Keeping.{keep_batch, kept_record}
use Rattle.wm_graph.specs.Parts.{parts_of}
use Rattle.wm_spec.specs.declared.record.Record.TheVariants as records
use Rattle.wm_spec.specs.declared.record.batch.Change.{Change}
use Rattle.wm_spec.specs.declared.record.counters.Counters.{Counters}
use Rattle.wm_spec.specs.declared.record.savepoint.Savepoint.{Savepoint}
use Rattle.wm_spec.specs.declared.record.space.Space.{Space}
use Rattle.wm_spec.specs.declared.record.stored.Stored.{Stored}
use Rattle.wm_spec.specs.declared.record.turn.Turn.{Turn}
use Rattle.wm_spec.specs.declared.record.version.Version.{Version}
use Rattle.wm_state.specs.Batches.{birth_batch, put, savepoint_batch}
use Rattle.wm_state.specs.Effects.{marked}
use Rattle.wm_state.specs.Points.{Point, birth_record, child_record, child_turn, child_version, implicit_of, made_at, moved, newest_point, next_place_at, saved_record, versioned}
use Rattle.wm_state.specs.State.{Stand}

-- a savepoint that keeps what is newest
pub saving_is : (rs : List Stored) (a : Space) (c : Counters) (m work : ℕ) (name : List ℕ) (counters_id space_id id : ℕ) (pt : Point) (counters : Counters) (space : Space) (x : Savepoint) → counters ≡ moved c m work
    → space ≡ marked (a.next_place + 1) a.next_implicit a → x ≡ made_at (parts_of rs) a name false pt → pt ≡ newest_point (parts_of rs) a m
    → savepoint_batch counters_id counters space_id space id x
    ≡ savepoint_batch counters_id (moved c m work) space_id (marked (a.next_place + 1) a.next_implicit a) id (saved_record (parts_of rs) a m name)
saving_is rs a c m work name counters_id space_id id pt counters space x count mark saved point = rw (count, mark, saved, point) refl

-- or an implicit one, for its own sake
pub keeping_is : (rs : List Stored) (a : Space) (c : Counters) (m work : ℕ) (given : List ℕ) (counters_id space_id id : ℕ) (pt : Point) (counters : Counters) (space : Space) (x : Savepoint) → counters ≡ moved c m work
    → space ≡ marked (a.next_place + 1) (a.next_implicit + 1) a → x ≡ made_at (parts_of rs) a given true pt → given ≡ implicit_of a → pt ≡ newest_point (parts_of rs) a m
    → savepoint_batch counters_id counters space_id space id x ≡ keep_batch counters_id (moved c m work) space_id a id (kept_record (parts_of rs) a m)
keeping_is rs a c m work given counters_id space_id id pt counters space x count mark made named point = rw (count, mark, made, named, point) refl

-- a workspace that is born at a point
pub bearing_is : (rs : List Stored) (a : Space) (c : Counters) (m work : ℕ) (name given : List ℕ) (stand : Stand) (pt : Point) (place counters_id space_id id : ℕ) (counters : Counters) (space child : Space) (version : Version) (turn : Turn) (x : Savepoint) (saved all : List Change)
    → counters ≡ versioned c m work → space ≡ marked place (a.next_implicit + 1) a → place ≡ next_place_at a stand → x ≡ made_at (parts_of rs) a given true pt → given ≡ implicit_of a → child ≡ child_record (parts_of rs) a m name pt
    → version ≡ child_version (parts_of rs) c pt → turn ≡ child_turn (parts_of rs) pt → saved ≡ savepoint_batch counters_id counters space_id space id x
    → all ≡ saved ++ put (id + 1) (records.Space child) ∷ put (id + 2) (records.Version version) ∷ put (id + 3) (records.Turn turn) ∷ []
    → all
    ≡ birth_batch counters_id (versioned c m work) space_id (marked (next_place_at a stand) (a.next_implicit + 1) a) id (birth_record (parts_of rs) a pt) (child_record (parts_of rs) a m name pt) (child_version (parts_of rs) c pt)
    (child_turn (parts_of rs) pt)
bearing_is rs a c m work name given stand pt place counters_id space_id id counters space child version turn x saved all count mark next made named born newest turned saves is =
    rw (is, saves, count, mark, next, made, named, born, newest, turned) refl
