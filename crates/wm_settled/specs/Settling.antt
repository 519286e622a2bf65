-- Cells are settled in a workspace: what new marks say, what becomes of the records, told by what is looked up in them, and the batch.
use Rattle.std.specs.Prelude.{ℕ, ◌≡◌, ◌+◌, ◌==◌, ◌&&◌, nat_le, nat_lt, Bool, true, false, if◌then◌else◌, max, List, [], ◌∷◌, ◌++◌, map, Option, Some, None, is_some}
use Rattle.std.specs.List.{All, filter, flat_map, list_all}
use Rattle.wm_graph.specs.Parts.{Parts, parts_of, space_of}
use Rattle.wm_period.specs.Pieces.{Held}
use Rattle.wm_spec.specs.Lists.{Cell}
use Rattle.wm_spec.specs.Records.{ids_differ, record_at}
use Rattle.wm_spec.specs.declared.record.Record.{Record}
use Rattle.wm_spec.specs.declared.record.Record.TheVariants as records
use Rattle.wm_spec.specs.declared.record.batch.Change.{Change}
use Rattle.wm_spec.specs.declared.record.counters.Counters.{Counters}
use Rattle.wm_spec.specs.declared.record.piece.PieceRecord.{PieceRecord}
use Rattle.wm_spec.specs.declared.record.space.Space.{Space}
use Rattle.wm_spec.specs.declared.record.stored.Stored.{Stored}
use Rattle.wm_spec.specs.declared.record.trace.Trace.{Trace}
use Rattle.wm_state.specs.Batches.{AreDropped, drop_one, put}
use Rattle.wm_state.specs.Drafts.{cells_in, mark_piece}
use Rattle.wm_state.specs.Drawing.{AreDrawn, PassesParts, left_by, stored_last, touched as met_by}
use Rattle.wm_state.specs.Editing.{settled_by}
use Rattle.wm_state.specs.Standing.{IsRealMark, in_cells, marked_at}
use Rattle.wm_state.specs.Touching.{drawn_all, is_unmet, trace_of}
use Rattle.wm_state.specs.Writes.{put_all}
use Rattle.wm_state.specs.declared.edit.NewMark.{NewMark}

-- ---- what new marks say

-- one more than the greatest position of new marks that cover a cell; 0 where there is none
abbrev pub said : List NewMark → Cell → ℕ
said [] c = 0
said (m ∷ ms) c = max (if in_cells (cells_in m) c then m.position + 1 else 0) (said ms c)

-- one more than the stamp of what is held; 0 where there is nothing
abbrev pub past : Option Held → ℕ
past None = 0
past (Some h) = h.stamp.number + 1

-- what others leave of pieces, one of them after another
abbrev pub cut : List PieceRecord → List PieceRecord → List PieceRecord
cut [] xs = xs
cut (over ∷ others) xs = cut others (flat_map (left_by over) xs)

-- those of a greater stamp
abbrev pub greater : ℕ → List PieceRecord → List PieceRecord
greater stamp xs = filter (λ (x : PieceRecord). nat_lt stamp x.stamp) xs

-- pieces of a place that say what new marks do where no mark that the workspace has at it is of a greater position, and nothing elsewhere;
-- each is one of the new marks or a part of one
pub record AreNewest (n place : ℕ) (ms : List NewMark) (old : List Trace) (news : List PieceRecord) : Type 0 where
  pub held : (w : ℕ) (c : Cell) → past (stored_last news w c) ≡ (if (w == place) && nat_le (marked_at old n w c) (said ms c) then said ms c else 0)
  pub pass : (test : PieceRecord → Bool) → PassesParts test → list_all test (map (mark_piece place) ms) ≡ true → list_all test news ≡ true

-- ---- the records

-- cells were settled in a workspace: at the last place that was given there its marks say at each cell the greater of what they said and
-- what new marks over periods do; but for counters all else is as it was
pub record SettledIn (p q : Parts) (n : ℕ) (ms : List NewMark) : Type 0 where
  pub old : Space
  pub old_is : space_of p.spaces n ≡ Some old
  pub place : ℕ
  pub last : old.next_place ≡ place + 1
  pub here : (c : Cell) → marked_at q.marks n place c ≡ max (marked_at p.marks n place c) (said ms c)
  pub elsewhere : (m w : ℕ) (c : Cell) → ((m == n) && (w == place)) ≡ false → marked_at q.marks m w c ≡ marked_at p.marks m w c
  pub real : All IsRealMark (map (settled_by place) ms)
  pub rest : record q { counters = p.counters; marks = p.marks } ≡ p

-- ---- what goes and what comes

-- a record is kept but for the marks that a test lets go
abbrev pub keeps_marks : (Trace → Bool) → Record → Bool
keeps_marks test (records.Mark x) = test x
keeps_marks test r = true

-- what new marks say comes over the marks of a workspace, at the last place that was given there: the ids that go are those of the marks
-- that share a cell with what comes, each once, and what is drawn stands for them with the new ones over them
pub record Remarked (ss : List Stored) (a : Space) (ms : List NewMark) (ids : List ℕ) (drawn : List PieceRecord) : Type 0 where
  pub place : ℕ
  pub last : a.next_place ≡ place + 1
  pub news : List PieceRecord
  pub newest : AreNewest a.number place ms (parts_of ss).marks news
  pub marks : AreDrawn news (met_by news (drawn_all a.number (parts_of ss).marks)) drawn
  pub gone : AreDropped (keeps_marks (is_unmet a.number news)) ids ss
  pub once : ids_differ ids ≡ true
  pub there : list_all (λ id. is_some (record_at ss id)) ids ≡ true

-- ---- the batch

-- what is drawn for the marks comes in the place of those that are dropped
abbrev pub settle_batch : ℕ → Counters → ℕ → List ℕ → ℕ → List PieceRecord → List Change
settle_batch counters_id counters n dropped id drawn =
    put counters_id (records.Counters counters) ∷ (map drop_one dropped ++ put_all id (map records.Mark (map (trace_of n) drawn)))
