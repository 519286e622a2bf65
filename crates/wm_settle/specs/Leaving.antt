-- What the marks of a workspace leave of new ones, and what is put for these.
use Rattle.std.specs.Prelude.{ℕ, ◌≡◌, List, [], ◌∷◌, ◌++◌, map, Some}
use Rattle.wm_graph.specs.Parts.{parts_of}
use Rattle.wm_spec.specs.Records.{record_at}
use Rattle.wm_spec.specs.declared.record.Record.{Record}
use Rattle.wm_spec.specs.declared.record.Record.TheVariants as records
use Rattle.wm_spec.specs.declared.record.batch.Change.{Change}
use Rattle.wm_spec.specs.declared.record.counters.Counters.{Counters}
use Rattle.wm_spec.specs.declared.record.piece.PieceRecord.{PieceRecord}
use Rattle.wm_spec.specs.declared.record.stored.Stored.{Stored}
use Rattle.wm_state.specs.Batches.{drop_one, put}
use Rattle.wm_state.specs.ById.{Ascend}
use Rattle.wm_state.specs.Drafts.{mark_piece}
use Rattle.wm_state.specs.Writes.{put_all}
use Rattle.wm_state.specs.declared.edit.NewMark.{NewMark}
use Rattle.wm_index.specs.Kinds.{kind_at}
use Rattle.wm_index.specs.Sought.{MarksAt, ids_with, is_sought}
use Rattle.wm_append.specs.Layers.{mark_in}
use Rattle.wm_settled.specs.Settling.{cut, greater}

-- of a new mark at a place, as a piece, those of its table and key that are at greater positions take what they cover
abbrev pub left_of : List Stored → ℕ → ℕ → NewMark → List PieceRecord
left_of ss n place m = cut (greater m.position (kind_at (mark_in n) ss (ids_with (is_sought (MarksAt m.table m.key)) ss))) (mark_piece place m ∷ [])

-- the changes put counters, drop ids, and put new records from this id on
pub record AreMarked (ss : List Stored) (counters : Counters) (id : ℕ) (dropped : List ℕ) (news : List Record) (changes : List Change) : Type 0 where
  pub counters_id : ℕ
  pub old : Counters
  pub one : (parts_of ss).counters ≡ old ∷ []
  pub counters_at : record_at ss counters_id ≡ Some (records.Counters old)
  pub sorted : Ascend ss
  pub are : changes ≡ put counters_id (records.Counters counters) ∷ (map drop_one dropped ++ put_all id news)
