-- What becomes of the records where a line writes entries, and the batches that do it.
use Rattle.std.specs.Prelude.{ℕ, ◌≡◌, ◌+◌, Bool, true, false, ◌==◌, if◌then◌else◌, List, [], ◌∷◌, ◌++◌, map, length, Some, is_some}
use Rattle.std.specs.List.{All, list_all}
use Rattle.std.specs.Option.{option_or, option_map}
use Rattle.wm_graph.specs.Parts.{Parts, parts_of, row_of, space_of}
use Rattle.wm_spec.specs.Lists.{Entry, Cell, told}
use Rattle.wm_spec.specs.Records.{ids_differ, record_at}
use Rattle.wm_spec.specs.declared.record.Record.{Record}
use Rattle.wm_spec.specs.declared.record.Record.TheVariants as records
use Rattle.wm_spec.specs.declared.record.batch.Change.{Change}
use Rattle.wm_spec.specs.declared.record.counters.Counters.{Counters}
use Rattle.wm_spec.specs.declared.record.hist.Hist.{Hist}
use Rattle.wm_spec.specs.declared.record.piece.PieceRecord.{PieceRecord}
use Rattle.wm_spec.specs.declared.record.row.RowRecord.{RowRecord}
use Rattle.wm_spec.specs.declared.record.space.Space.{Space}
use Rattle.wm_spec.specs.declared.record.stored.Stored.{Stored}
use Rattle.wm_spec.specs.declared.record.table.Table.{Table}
use Rattle.wm_spec.specs.declared.record.trace.Trace.{Trace}
use Rattle.wm_spec.specs.declared.record.version.Version.{Version}
use Rattle.wm_state.specs.Batches.{AreDropped, put, drop_one}
use Rattle.wm_state.specs.Effects.{IsLeaf, IsFree, IsApart}
use Rattle.wm_state.specs.Drawing.{AreDrawn, end_with, is_clear, touched as met_by}
use Rattle.wm_state.specs.Entries.{hists_kept, pieces_of, rows_in}
use Rattle.wm_state.specs.Standing.{held_of, stored_at, newest_first, latest, HasRow, HasRows, IsReal}
use Rattle.wm_state.specs.Touching.{Touched, drawn_all, is_unmet, marks_of, trace_of}

-- ---- the effect

-- a version has what entries say over what it had, and every other version what it had
abbrev pub AreAllLaid : ℕ → List Entry → List PieceRecord → List PieceRecord → Type 0
AreAllLaid version es old new =
    (v : ℕ) (c : Cell) → stored_at new v c ≡ (if v == version then option_or (option_map held_of (told es c)) (stored_at old v c) else stored_at old v c)

-- the workspace's record with a log that is longer by so many, and all else as it was
abbrev pub longer_by : ℕ → Space → Space
longer_by k s = record s { log_length = s.log_length + k }

-- entries were written into the newest version of a workspace, which nothing stands under and nothing names, their rows beside the
-- others; their cells were touched at the last place that was given, and those of tables with history have records behind the others;
-- but for counters all else is as it was
pub record WroteAll (p q : Parts) (n : ℕ) (es : List Entry) : Type 0 where
  pub leaf : IsLeaf (latest p n) (newest_first p.versions)
  pub free : IsFree p (latest p n)
  pub apart : IsApart p n
  pub count : length q.spaces ≡ length p.spaces
  pub old : Space
  pub old_is : space_of p.spaces n ≡ Some old
  pub here : space_of q.spaces n ≡ Some (longer_by (length es) old)
  pub elsewhere : (m : ℕ) → (m == n) ≡ false → space_of q.spaces m ≡ space_of p.spaces m
  pub pieces : AreAllLaid (latest p n) es p.pieces q.pieces
  pub ends : end_with (p.pieces ++ pieces_of (latest p n) es) q.pieces ≡ true
  pub rows_kept : (stamp : ℕ) (r : RowRecord) → row_of p.rows stamp ≡ Some r → row_of q.rows stamp ≡ Some r
  pub rows_new : HasRows q es
  pub rows_each : All (HasRow q) es
  pub real : All (IsReal p.tables) es
  pub place : ℕ
  pub last : old.next_place ≡ place + 1
  pub touches : Touched n place old.log_length es p.touches q.touches
  pub hists : q.hists ≡ p.hists ++ hists_kept p.tables n old.log_length es
  pub rest : record q { counters = p.counters; spaces = p.spaces; rows = p.rows; pieces = p.pieces; touches = p.touches; hists = p.hists } ≡ p

-- ---- what goes and what comes

-- a record is kept but for the pieces and the touches that their tests let go
abbrev pub keeps_both : (PieceRecord → Bool) → (Trace → Bool) → Record → Bool
keeps_both pieces touches (records.Piece x) = pieces x
keeps_both pieces touches (records.Touch x) = touches x
keeps_both pieces touches r = true

-- entries come over the pieces of a version, and what they touch over the touches of a workspace, at the last place that was given there
-- and from the end of its log on: the ids that go are those of the pieces and of the touches that share a cell with one of the new ones,
-- each once, and what is drawn and what is traced stands for them with the new ones over them
pub record Redrawn (ss : List Stored) (version : ℕ) (a : Space) (es : List Entry) (ids : List ℕ) (drawn traced : List PieceRecord) : Type 0 where
  pub place : ℕ
  pub last : a.next_place ≡ place + 1
  pub pieces : AreDrawn (pieces_of version es) (met_by (pieces_of version es) (parts_of ss).pieces) drawn
  pub marks : AreDrawn (marks_of place a.log_length es) (met_by (marks_of place a.log_length es) (drawn_all a.number (parts_of ss).touches)) traced
  pub gone : AreDropped (keeps_both (is_clear (pieces_of version es)) (is_unmet a.number (marks_of place a.log_length es))) ids ss
  pub once : ids_differ ids ≡ true
  pub there : list_all (λ id. is_some (record_at ss id)) ids ≡ true

-- ---- the batches

-- new records, whose ids follow one another from this one on
abbrev pub put_all : ℕ → List Record → List Change
put_all id [] = []
put_all id (r ∷ rs) = put id r ∷ put_all (id + 1) rs

-- so many entries are written: rows, pieces and touches in the place of those that are dropped, and records of entries; the workspace's
-- log is longer by as many
abbrev pub write_batch : ℕ → Counters → ℕ → Space → ℕ → List ℕ → ℕ → List RowRecord → List PieceRecord → List Trace → List Hist → List Change
write_batch counters_id counters space_id space count dropped id rows pieces touches hists =
    put counters_id (records.Counters counters) ∷ put space_id (records.Space (longer_by count space))
    ∷ (map drop_one dropped
    ++ put_all id (map records.Row rows ++ (map records.Piece pieces ++ (map records.Touch touches ++ map records.Hist hists))))

-- the same in a version more, where no piece is yet
abbrev pub write_new_batch : ℕ → Counters → ℕ → Space → ℕ → List ℕ → ℕ → Version → List RowRecord → List PieceRecord → List Trace → List Hist → List Change
write_new_batch counters_id counters space_id space count dropped id version rows pieces touches hists =
    put id (records.Version version) ∷ write_batch counters_id counters space_id space count dropped (id + 1) rows pieces touches hists

-- the first of entries: their rows, what is drawn and what is traced for them, and what the log has of those whose table keeps its history
abbrev pub entries_batch : List Table → ℕ → Counters → ℕ → Space → List ℕ → ℕ → List Entry → List PieceRecord → List PieceRecord → List Change
entries_batch tables counters_id counters space_id a dropped id es drawn traced =
    write_batch counters_id counters space_id a (length es) dropped id (rows_in es) drawn (map (trace_of a.number) traced) (hists_kept tables a.number a.log_length es)

-- and the second
abbrev pub entries_new_batch : List Table → ℕ → Counters → ℕ → Space → List ℕ → ℕ → Version → List Entry → List PieceRecord → List PieceRecord → List Change
entries_new_batch tables counters_id counters space_id a dropped id version es drawn traced =
    write_new_batch counters_id counters space_id a (length es) dropped id version (rows_in es) drawn (map (trace_of a.number) traced) (hists_kept tables a.number a.log_length es)
