-- A workspace that is the parent of none goes: what becomes of the state, and of the records.
use Rattle.std.specs.Prelude.{ℕ, ◌≡◌, Bool, true, not, List, ◌∷◌, map}
use Rattle.std.specs.List.{filter}
use Rattle.wm_graph.specs.Parts.{Parts, version_of}
use Rattle.wm_graph.specs.Rules.{is_version_of}
use Rattle.wm_spec.specs.declared.record.Record.{Record as OneRecord}
use Rattle.wm_spec.specs.declared.record.Record.TheVariants as records
use Rattle.wm_spec.specs.declared.record.batch.Change.{Change}
use Rattle.wm_spec.specs.declared.record.counters.Counters.{Counters}
use Rattle.wm_spec.specs.declared.record.hist.Hist.{Hist}
use Rattle.wm_spec.specs.declared.record.lock.Lock.{Lock}
use Rattle.wm_spec.specs.declared.record.piece.PieceRecord.{PieceRecord}
use Rattle.wm_spec.specs.declared.record.savepoint.Savepoint.{Savepoint}
use Rattle.wm_spec.specs.declared.record.space.Space.{Space}
use Rattle.wm_spec.specs.declared.record.trace.Trace.{Trace}
use Rattle.wm_spec.specs.declared.record.turn.Turn.{Turn}
use Rattle.wm_spec.specs.declared.record.version.Version.{Version}
use Rattle.wm_state.specs.Batches.{drop_one, put}
pub use Rattle.wm_state.specs.Drafts.{CanRemove}
pub use Rattle.wm_state.specs.Editing.{is_other, without}

-- ---- the records

-- a piece is of a version of another workspace
abbrev pub is_others : List Version → ℕ → PieceRecord → Bool
is_others versions n x = not (is_version_of (version_of versions) x.version n)

-- the records of other workspaces: their versions and what stands in them, their savepoints, touched and settled cells, locks, entries and
-- turns; counters, tables and rows are of none
abbrev pub parts_without : ℕ → Parts → Parts
parts_without n p = record p {
  spaces = filter (λ (r : Space). is_other n r.number) p.spaces;
  versions = filter (λ (v : Version). is_other n v.space) p.versions;
  savepoints = filter (λ (x : Savepoint). is_other n x.space) p.savepoints;
  pieces = filter (is_others p.versions n) p.pieces;
  touches = filter (λ (x : Trace). is_other n x.space) p.touches;
  locks = filter (λ (x : Lock). is_other n x.space) p.locks;
  hists = filter (λ (x : Hist). is_other n x.space) p.hists;
  marks = filter (λ (x : Trace). is_other n x.space) p.marks;
  turns = filter (λ (x : Turn). is_other n x.space) p.turns;
}

-- a workspace is gone; but for counters the records are those of the others
pub record Thinned (p q : Parts) (n : ℕ) : Type 0 where
  pub may : CanRemove p n
  pub rest : record q { counters = p.counters } ≡ parts_without n p

-- ---- the batch

-- a record that stays where a workspace goes, whose versions are among these
abbrev pub keeps_without : List Version → ℕ → OneRecord → Bool
keeps_without versions n (records.Space r) = is_other n r.number
keeps_without versions n (records.Version v) = is_other n v.space
keeps_without versions n (records.Savepoint x) = is_other n x.space
keeps_without versions n (records.Piece x) = is_others versions n x
keeps_without versions n (records.Touch x) = is_other n x.space
keeps_without versions n (records.Lock x) = is_other n x.space
keeps_without versions n (records.Hist x) = is_other n x.space
keeps_without versions n (records.Mark x) = is_other n x.space
keeps_without versions n (records.Turn x) = is_other n x.space
keeps_without versions n x = true

-- the records of these ids go
abbrev pub remove_batch : ℕ → Counters → List ℕ → List Change
remove_batch counters_id counters dropped = put counters_id (records.Counters counters) ∷ map drop_one dropped
