-- What entries of several tables touch is drawn over the touches of a workspace.
use Rattle.std.proofs.Common.{◌≡◌, ℕ, ◌+◌, nat_lt, true, not, List, [], ◌∷◌, map, refl, sym, subst, ◌∙◌}
use Rattle.std.proofs.lemmas.List.Elements.{All-head, All-tail}
use Rattle.std.proofs.lemmas.Bool.{and_from, and_parts, lt-ltb}
use Rattle.std.specs.List.{All, list_all}
use Rattle.std.specs.Ordering.{is_gt}
use Rattle.wm_append.proofs.News.{marks_here}
use Rattle.wm_append.proofs.TwoLayers.{touches_seen}
use Rattle.wm_append.specs.Layers.{touch_in}
use Rattle.wm_append.specs.Redraw.{AreNewsOf, IsRedrawn, are_ascending, piece_cells}
use Rattle.wm_append.specs.Views.{keeps_in}
use Rattle.wm_gained.specs.Gaining.{Retraced}
use Rattle.wm_graph.specs.Parts.{parts_of}
use Rattle.wm_spec.specs.Lists.{Entry}
use Rattle.wm_spec.specs.declared.record.Record.{Record}
use Rattle.wm_spec.specs.declared.record.Record.TheVariants as records
use Rattle.wm_spec.specs.declared.record.piece.PieceRecord.{PieceRecord}
use Rattle.wm_spec.specs.declared.record.space.Space.{Space}
use Rattle.wm_spec.specs.declared.record.stored.Stored.{Stored}
use Rattle.wm_spec.specs.declared.record.table.Table.{Table}
use Rattle.wm_state.specs.Drafts.{are_in_order, entry_order}
use Rattle.wm_state.specs.Drawing.{AreDrawn, has_moments, is_clear, touched as met_by}
use Rattle.wm_state.specs.Standing.{IsReal}
use Rattle.wm_state.specs.Touching.{drawn_all, is_unmet, marks_of, trace_at, trace_of}
use Rattle.wm_state.specs.Writes.{keeps_both}
use Rattle.wm_written.proofs.TouchesKept.{drawn-at, marks-at, traced-at}

-- ---- marks are news

-- marks of real entries have moments
marks_last : (tables : List Table) (place start : ℕ) (es : List Entry) → All (IsReal tables) es → list_all has_moments (marks_of place start es) ≡ true
marks_last tables place start [] real = refl
marks_last tables place start (e ∷ es) real =
    and_from (nat_lt e.from e.till) (list_all has_moments (marks_of place (start + 1) es)) (lt-ltb e.from e.till (All-head (IsReal tables) e es real).some)
    (marks_last tables place (start + 1) es (All-tail (IsReal tables) e es real))

-- those of entries in order stand so too
marks_sorted : (place start : ℕ) (es : List Entry) → are_in_order es ≡ true → are_ascending (piece_cells (marks_of place start es)) ≡ true
marks_sorted place start [] up = refl
marks_sorted place start (e ∷ []) up = refl
marks_sorted place start (e ∷ f ∷ fs) up =
    let h = and_parts (not (is_gt (entry_order e f))) (are_in_order (f ∷ fs)) up in
    and_from (not (is_gt (entry_order e f))) (are_ascending (piece_cells (marks_of place (start + 1) (f ∷ fs)))) h.0 (marks_sorted place (start + 1) (f ∷ fs) h.1)

pub marks_new : (tables : List Table) (place start : ℕ) (es : List Entry) → All (IsReal tables) es → are_in_order es ≡ true → AreNewsOf place (marks_of place start es)
marks_new tables place start es real up = record {
  here = marks_here place start es;
  last = marks_last tables place start es real;
  sorted = marks_sorted place start es up;
}

-- ---- what is drawn

-- of the touches of the workspace go those that the marks meet
met_alone : (n : ℕ) (marks : List PieceRecord) (r : Record) → not (keeps_in (touch_in n) (is_clear marks) r) ≡ not (keeps_both (λ (x : PieceRecord). true) (is_unmet n marks) r)
met_alone n marks (records.Piece x) = refl
met_alone n marks (records.Touch x) = refl
met_alone n marks _ = refl

-- what is drawn of them stands for them with the marks over them
pub retraced_so : (rs : List Stored) (a : Space) (place : ℕ) (es : List Entry) (ids : List ℕ) (traced : List PieceRecord) → a.next_place ≡ place + 1 → IsRedrawn (touch_in a.number) rs (marks_of place a.log_length es) ids traced → Retraced rs a es ids traced
retraced_so rs a place es ids traced last drawn = record {
  place = place;
  last = last;
  marks = subst (λ (xs : List PieceRecord). AreDrawn (marks_of place a.log_length es) (met_by (marks_of place a.log_length es) xs) traced) (touches_seen a.number rs) drawn.are;
  gone = λ id r found. drawn.gone id r found ∙ met_alone a.number (marks_of place a.log_length es) r;
  once = drawn.once;
  there = drawn.there;
}

-- and goes back to touches of the one place
pub traces_back : (rs : List Stored) (a : Space) (place : ℕ) (es : List Entry) (ids : List ℕ) (traced : List PieceRecord) → IsRedrawn (touch_in a.number) rs (marks_of place a.log_length es) ids traced
    → map (trace_at a.number place) traced ≡ map (trace_of a.number) traced
traces_back rs a place es ids traced drawn =
    sym
    (traced-at a.number place traced
    (drawn-at place (marks_of place a.log_length es) (drawn_all a.number (parts_of rs).touches) traced (marks-at place a.log_length es)
    (subst (λ (xs : List PieceRecord). AreDrawn (marks_of place a.log_length es) (met_by (marks_of place a.log_length es) xs) traced) (touches_seen a.number rs) drawn.are)))
