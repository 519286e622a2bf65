-- What is left of new marks is drawn over the marks of a workspace.
use Rattle.std.proofs.Common.{◌≡◌, ℕ, ◌+◌, true, not, List, map, refl, sym, subst, ◌∙◌}
use Rattle.std.specs.List.{flat_map}
use Rattle.wm_graph.specs.Parts.{parts_of}
use Rattle.wm_graph.specs.Rules.{collide, differ}
use Rattle.wm_spec.specs.declared.record.Record.{Record}
use Rattle.wm_spec.specs.declared.record.Record.TheVariants as records
use Rattle.wm_spec.specs.declared.record.piece.PieceRecord.{PieceRecord}
use Rattle.wm_spec.specs.declared.record.space.Space.{Space}
use Rattle.wm_spec.specs.declared.record.stored.Stored.{Stored}
use Rattle.wm_state.specs.ById.{Ascend}
use Rattle.wm_state.specs.Drafts.{mark_piece}
use Rattle.wm_state.specs.Drawing.{AreDrawn, is_clear, touched as met_by}
use Rattle.wm_state.specs.Touching.{drawn_all, is_unmet, trace_at, trace_of}
use Rattle.wm_state.specs.declared.edit.NewMark.{NewMark}
use Rattle.wm_written.proofs.TouchesKept.{drawn-at, traced-at}
use Rattle.wm_settled.specs.Settling.{Remarked, keeps_marks}
use Rattle.wm_append.specs.Layers.{mark_in}
use Rattle.wm_append.specs.Redraw.{AreNewsOf, IsRedrawn}
use Rattle.wm_append.specs.Views.{keeps_in}
use Rattle.wm_settle.specs.Leaving.{left_of}
use Rattle.wm_settle.proofs.Found.{marks_seen, newest_left}

-- of the marks of the workspace go those that what is left meets
met_alone : (n : ℕ) (news : List PieceRecord) (r : Record) → not (keeps_in (mark_in n) (is_clear news) r) ≡ not (keeps_marks (is_unmet n news) r)
met_alone n news (records.Mark x) = refl
met_alone n news _ = refl

drawn_over : (n : ℕ) (rs : List Stored) (news : List PieceRecord) (ids : List ℕ) (drawn : List PieceRecord) → IsRedrawn (mark_in n) rs news ids drawn → AreDrawn news (met_by news (drawn_all n (parts_of rs).marks)) drawn
drawn_over n rs news ids drawn redrawn = subst (λ (xs : List PieceRecord). AreDrawn news (met_by news xs) drawn) (marks_seen n rs) redrawn.are

pub remarked_so : (rs : List Stored) (a : Space) (place : ℕ) (ms : List NewMark) (ids : List ℕ) (drawn : List PieceRecord) → Ascend rs → a.next_place ≡ place + 1 → differ collide (map (mark_piece 0) ms) ≡ true
    → IsRedrawn (mark_in a.number) rs (flat_map (left_of rs a.number place) ms) ids drawn → Remarked rs a ms ids drawn
remarked_so rs a place ms ids drawn sorted last apart redrawn = record {
  place = place;
  last = last;
  news = flat_map (left_of rs a.number place) ms;
  newest = newest_left rs sorted a.number place ms apart;
  marks = drawn_over a.number rs (flat_map (left_of rs a.number place) ms) ids drawn redrawn;
  gone = λ id r found. redrawn.gone id r found ∙ met_alone a.number (flat_map (left_of rs a.number place) ms) r;
  once = redrawn.once;
  there = redrawn.there;
}

-- and goes back to marks of the one place
pub marks_back : (rs : List Stored) (n place : ℕ) (news : List PieceRecord) (ids : List ℕ) (drawn : List PieceRecord) → AreNewsOf place news → IsRedrawn (mark_in n) rs news ids drawn → map (trace_at n place) drawn ≡ map (trace_of n) drawn
marks_back rs n place news ids drawn new redrawn = sym (traced-at n place drawn (drawn-at place news (drawn_all n (parts_of rs).marks) drawn new.here (drawn_over n rs news ids drawn redrawn)))
