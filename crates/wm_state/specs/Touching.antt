-- Touched cells: what records of touches tell of a log, and what becomes of them where a line writes entries.
use Rattle.std.specs.Prelude.{ℕ, ◌≡◌, ◌+◌, Bool, true, false, not, ◌&&◌, ◌||◌, ◌==◌, nat_lt, if◌then◌else◌, List, [], ◌∷◌, ◌++◌, map, Option}
use Rattle.std.specs.Bool.{then_some}
use Rattle.std.specs.List.{filter, filter_map}
use Rattle.std.specs.Option.{option_map_or}
use Rattle.wm_graph.specs.Rules.{as_drawn}
use Rattle.wm_spec.specs.Lists.{Cell, Entry, reach, touched}
use Rattle.wm_spec.specs.declared.record.piece.PieceRecord.{PieceRecord}
use Rattle.wm_spec.specs.declared.record.trace.Trace.{Trace}
use Rattle.wm_state.specs.Drawing.{AreDrawn, end_with, is_clear, touched as met_by}
use Rattle.wm_state.specs.Entries.{pieces_of}
use Rattle.wm_state.specs.Standing.{reached}

-- ---- touches as pieces

-- a touch as a piece, where it is of the workspace
abbrev pub drawn_as : ℕ → Trace → Option PieceRecord
drawn_as n x = then_some (x.space == n) (as_drawn x)

abbrev pub drawn_all : ℕ → List Trace → List PieceRecord
drawn_all n xs = filter_map (drawn_as n) xs

-- and back
abbrev pub trace_of : ℕ → PieceRecord → Trace
trace_of n x = record { space = n; place = x.version; cells = x.cells; position = x.stamp }

-- a piece of a place as a touch there
abbrev pub trace_at : ℕ → ℕ → PieceRecord → Trace
trace_at n place x = record { space = n; place = place; cells = x.cells; position = x.stamp }

-- what the entries of a line touch, at a place and from a position of the log on, as pieces
abbrev pub marks_of : ℕ → ℕ → List Entry → List PieceRecord
marks_of place start [] = []
marks_of place start (e ∷ es) =
    as_drawn (record { space = 0; place = place; cells = record { table = e.table; key = e.key; from = e.from; till = e.till }; position = start })
    ∷ marks_of place (start + 1) es

-- the position is below one, where the touch is of the workspace
abbrev pub is_behind : ℕ → ℕ → Trace → Bool
is_behind n start x = not (x.space == n) || nat_lt x.position start

-- ---- the effect

-- no new mark shares a cell with the touch
abbrev pub is_unmet : ℕ → List PieceRecord → Trace → Bool
is_unmet n news x = option_map_or (is_clear news) (drawn_as n x) true

-- touches of a workspace that new marks meet went, and what was drawn for them and for the marks came
pub record AreMarked (n : ℕ) (news : List PieceRecord) (old new : List Trace) : Type 0 where
  pub drawn : List PieceRecord
  pub are : AreDrawn news (met_by news (drawn_all n old)) drawn
  pub is : new ≡ filter (is_unmet n news) old ++ map (trace_of n) drawn

-- entries were marked as touched in a workspace at a place, from a position of its log on
pub record Touched (n place start : ℕ) (es : List Entry) (old new : List Trace) : Type 0 where
  pub here : (below : ℕ) (c : Cell) → reached new n below c ≡ (if nat_lt place below && touched es c then reach es c + start else reached old n below c)
  pub elsewhere : (m : ℕ) → (m == n) ≡ false → drawn_all m new ≡ drawn_all m old
  pub ends : end_with (drawn_all n old ++ pieces_of place es) (drawn_all n new) ≡ true
