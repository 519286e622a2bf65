-- A log gains entries that another workspace has, with the stamps that they have: what becomes of the state, and of the records, told by
-- what is looked up in them.
use Rattle.std.specs.Prelude.{ℕ, ◌≡◌, ◌+◌, ◌==◌, true, false, List, [], ◌++◌, map, length, Some, is_some}
use Rattle.std.specs.List.{All, list_all}
use Rattle.wm_graph.specs.Parts.{Parts, parts_of, space_of}
use Rattle.wm_spec.specs.Lists.{Entry}
use Rattle.wm_spec.specs.Records.{ids_differ, record_at}
use Rattle.wm_spec.specs.declared.record.batch.Change.{Change}
use Rattle.wm_spec.specs.declared.record.counters.Counters.{Counters}
use Rattle.wm_spec.specs.declared.record.piece.PieceRecord.{PieceRecord}
use Rattle.wm_spec.specs.declared.record.space.Space.{Space}
use Rattle.wm_spec.specs.declared.record.stored.Stored.{Stored}
use Rattle.wm_spec.specs.declared.record.table.Table.{Table}
use Rattle.wm_state.specs.Batches.{AreDropped}
use Rattle.wm_state.specs.Drawing.{AreDrawn, touched as met_by}
use Rattle.wm_state.specs.Entries.{hists_kept}
use Rattle.wm_state.specs.Standing.{HasRow, IsReal, has_history}
use Rattle.wm_state.specs.Touching.{Touched, drawn_all, is_unmet, marks_of, trace_of}
use Rattle.wm_state.specs.Writes.{keeps_both, longer_by, write_batch}

-- ---- the records

-- the log of a workspace gained entries, all of them real, and of a table with history with their rows; their cells were touched at the
-- last place that was given, and those of tables with history have records behind the others; but for counters all else is as it was
pub record Gained (p q : Parts) (n : ℕ) (es : List Entry) : Type 0 where
  pub count : length q.spaces ≡ length p.spaces
  pub old : Space
  pub old_is : space_of p.spaces n ≡ Some old
  pub here : space_of q.spaces n ≡ Some (longer_by (length es) old)
  pub elsewhere : (m : ℕ) → (m == n) ≡ false → space_of q.spaces m ≡ space_of p.spaces m
  pub real : All (IsReal p.tables) es
  pub rows : All (λ (e : Entry). has_history p.tables e.table ≡ true → HasRow p e) es
  pub place : ℕ
  pub last : old.next_place ≡ place + 1
  pub touches : Touched n place old.log_length es p.touches q.touches
  pub hists : q.hists ≡ p.hists ++ hists_kept p.tables n old.log_length es
  pub rest : record q { counters = p.counters; spaces = p.spaces; touches = p.touches; hists = p.hists } ≡ p

-- ---- what goes and what comes

-- what entries touch comes over the touches of a workspace, at the last place that was given there and from the end of its log on: the ids
-- that go are those of the touches that share a cell with one of the new ones, each once, and what is traced stands for them with the new
-- ones over them
pub record Retraced (ss : List Stored) (a : Space) (es : List Entry) (ids : List ℕ) (traced : List PieceRecord) : Type 0 where
  pub place : ℕ
  pub last : a.next_place ≡ place + 1
  pub marks : AreDrawn (marks_of place a.log_length es) (met_by (marks_of place a.log_length es) (drawn_all a.number (parts_of ss).touches)) traced
  pub gone : AreDropped (keeps_both (λ (x : PieceRecord). true) (is_unmet a.number (marks_of place a.log_length es))) ids ss
  pub once : ids_differ ids ≡ true
  pub there : list_all (λ id. is_some (record_at ss id)) ids ≡ true

-- ---- the batch

-- the workspace's log is longer by the entries: what is traced for them comes in the place of the touches that are dropped, and what the
-- log has of those whose table keeps its history
abbrev pub gain_batch : List Table → ℕ → Counters → ℕ → Space → List ℕ → ℕ → List Entry → List PieceRecord → List Change
gain_batch tables counters_id counters space_id a dropped id es traced =
    write_batch counters_id counters space_id a (length es) dropped id [] [] (map (trace_of a.number) traced) (hists_kept tables a.number a.log_length es)
