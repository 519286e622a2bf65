-- What is put where entries come into a version.
use Rattle.std.specs.Prelude.{ℕ, ◌≡◌, ◌+◌, Bool, if◌then◌else◌, List, [], ◌∷◌, ◌++◌, map, Some}
use Rattle.wm_graph.specs.Parts.{parts_of, space_of}
use Rattle.wm_spec.specs.Lists.{Entry}
use Rattle.wm_spec.specs.Records.{record_at}
use Rattle.wm_spec.specs.declared.record.Record.{Record}
use Rattle.wm_spec.specs.declared.record.Record.TheVariants as records
use Rattle.wm_spec.specs.declared.record.batch.Change.{Change}
use Rattle.wm_spec.specs.declared.record.counters.Counters.{Counters}
use Rattle.wm_spec.specs.declared.record.hist.Hist.{Hist}
use Rattle.wm_spec.specs.declared.record.piece.PieceRecord.{PieceRecord}
use Rattle.wm_spec.specs.declared.record.space.Space.{Space}
use Rattle.wm_spec.specs.declared.record.stored.Stored.{Stored}
use Rattle.wm_state.specs.Batches.{drop_one, put}
use Rattle.wm_state.specs.ById.{Ascend}
use Rattle.wm_state.specs.Entries.{hist_of, hists_kept, rows_in}
use Rattle.wm_state.specs.Touching.{trace_of}
use Rattle.wm_state.specs.Writes.{Redrawn, put_all}

-- the records of entries of one table, from a position of a log on, where it keeps its history
abbrev pub hists_if : Bool → ℕ → ℕ → List Entry → List Hist
hists_if history n position [] = []
hists_if history n position (e ∷ es) = if history then hist_of n position e ∷ hists_if history n (position + 1) es else hists_if history n (position + 1) es

-- where entries come into a version of a workspace: the ids that go, and the records that come
pub record AreMade (ss : List Stored) (a : Space) (version : ℕ) (es : List Entry) (dropped : List ℕ) (news : List Record) : Type 0 where
  pub drawn : List PieceRecord
  pub traced : List PieceRecord
  pub redrawn : Redrawn ss version a es dropped drawn traced
  pub are : news ≡ map records.Row (rows_in es) ++ (map records.Piece drawn ++ (map records.Touch (map (trace_of a.number) traced) ++ map records.Hist (hists_kept (parts_of ss).tables a.number a.log_length es)))

-- the changes put, behind others, counters, a workspace that is there, and new records from this id on, and drop ids
pub record AreWritten (ss : List Stored) (front : List Change) (counters : Counters) (space : Space) (id : ℕ) (dropped : List ℕ) (news : List Record) (changes : List Change) : Type 0 where
  pub counters_id : ℕ
  pub old : Counters
  pub one : (parts_of ss).counters ≡ old ∷ []
  pub counters_at : record_at ss counters_id ≡ Some (records.Counters old)
  pub space_id : ℕ
  pub was : Space
  pub found : space_of (parts_of ss).spaces space.number ≡ Some was
  pub space_at : record_at ss space_id ≡ Some (records.Space was)
  pub sorted : Ascend ss
  pub are : changes ≡ front ++ (put counters_id (records.Counters counters) ∷ put space_id (records.Space space) ∷ (map drop_one dropped ++ put_all id news))
