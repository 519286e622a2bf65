-- What goes and what comes where entries come into a version.
use Rattle.std.proofs.Common.{◌≡◌, ℕ, ◌+◌, ◌≤◌, ◌-◌, ◌==◌, ◌&&◌, nat_le, Bool, true, List, ◌++◌, append_assoc, map, Some, refl, sym, ap, subst, ◌∙◌, arith}
use Rattle.std.proofs.lemmas.Bool.{and_parts}
use Rattle.std.specs.List.{list_all}
use Rattle.std.specs.Str.{bytes_eq}
use Rattle.wm_graph.specs.Parts.{Parts, as_piece, parts_of, space_of}
use Rattle.wm_graph.specs.Rules.{differ, is_placed, is_short, is_space, keep_rules}
use Rattle.wm_spec.specs.Lists.{Entry}
use Rattle.wm_spec.specs.declared.record.Record.{Record}
use Rattle.wm_spec.specs.declared.record.Record.TheVariants as records
use Rattle.wm_spec.specs.declared.record.piece.PieceRecord.{PieceRecord}
use Rattle.wm_spec.specs.declared.record.space.Space.{Space}
use Rattle.wm_spec.specs.declared.record.stored.Stored.{Stored}
use Rattle.wm_spec.specs.declared.record.trace.Trace.{Trace}
use Rattle.wm_state.proofs.Apart.{found-passes, ruled}
use Rattle.wm_state.specs.Drawing.{AreDrawn, touched as met_by}
use Rattle.wm_state.specs.Entries.{AreStamped, pieces_of, rows_in}
use Rattle.wm_state.specs.Standing.{has_history}
use Rattle.wm_state.specs.Touching.{drawn_all, marks_of, trace_at, trace_of}
use Rattle.wm_state.specs.Writes.{Redrawn}
use Rattle.wm_written.proofs.TouchesKept.{drawn-at, marks-at, traced-at}
use Rattle.wm_append.proofs.Entering.{kept_told}
use Rattle.wm_append.proofs.TwoLayers.{both_go, both_once, both_there, pieces_seen, touches_seen}
use Rattle.wm_append.specs.Appending.{AreMade, hists_if}
use Rattle.wm_append.specs.Layers.{touch_in}
use Rattle.wm_append.specs.Redraw.{IsRedrawn}

-- the next place of a workspace is behind the first
pub some_place : (p : Parts) (n : ℕ) (a : Space) → keep_rules p ≡ true → space_of p.spaces n ≡ Some a → nat_le 1 a.next_place ≡ true
some_place p n a rules there =
    let numbers = and_parts (differ (λ (s t : Space). s.number == t.number) p.spaces) _ (and_parts _ _ (ruled p rules).spaces).1 in
    let each = and_parts (differ (λ (s t : Space). bytes_eq s.name t.name) p.spaces) (list_all (is_space (space_of p.spaces)) p.spaces) numbers.1 in
    let own = found-passes (λ (x : Space). x.number == n) (is_space (space_of p.spaces)) p.spaces a there each.1 in
    (and_parts (nat_le 1 a.next_place) _ (and_parts (is_placed (space_of p.spaces) a && (is_short a.name && is_short a.writer)) _ own.1).1).0

pub placed : (next : ℕ) → nat_le 1 next ≡ true → 1 ≤ next
placed next some = grind (arith, some)

-- the place before it is the last that was given
pub last_place : (next place : ℕ) → nat_le 1 next ≡ true → place ≡ next - 1 → next ≡ place + 1
last_place next place some is = grind (arith, some, is)

-- what is drawn of both layers
pub redrawn_so : (rs : List Stored) (a : Space) (version place : ℕ) (es : List Entry) (gone away : List ℕ) (drawn traced : List PieceRecord) → a.next_place ≡ place + 1 → IsRedrawn as_piece rs (pieces_of version es) gone drawn
    → IsRedrawn (touch_in a.number) rs (marks_of place a.log_length es) away traced → Redrawn rs version a es (gone ++ away) drawn traced
redrawn_so rs a version place es gone away drawn traced last pieces touches = record {
  place = place;
  last = last;
  pieces = subst (λ (xs : List PieceRecord). AreDrawn (pieces_of version es) (met_by (pieces_of version es) xs) drawn) (pieces_seen rs) pieces.are;
  marks = subst (λ (xs : List PieceRecord). AreDrawn (marks_of place a.log_length es) (met_by (marks_of place a.log_length es) xs) traced) (touches_seen a.number rs) touches.are;
  gone = both_go a.number rs (pieces_of version es) (marks_of place a.log_length es) drawn traced gone away pieces touches;
  once = both_once a.number rs (pieces_of version es) (marks_of place a.log_length es) drawn traced gone away pieces touches;
  there = both_there a.number rs (pieces_of version es) (marks_of place a.log_length es) drawn traced gone away pieces touches;
}

-- what is drawn of touches goes back to touches of the one place
back_so : (rs : List Stored) (a : Space) (version place : ℕ) (es : List Entry) (ids : List ℕ) (drawn traced : List PieceRecord) (r : Redrawn rs version a es ids drawn traced) → r.place ≡ place
    → map (trace_at a.number place) traced ≡ map (trace_of a.number) traced
back_so rs a version place es ids drawn traced r is =
    ap (λ k. map (trace_at a.number k) traced) (sym is)
    ∙ sym (traced-at a.number r.place traced (drawn-at r.place (marks_of r.place a.log_length es) (drawn_all a.number (parts_of rs).touches) traced (marks-at r.place a.log_length es) r.marks))

-- records behind others, one list after the other
pub in_order : (rows pieces touches hists one two three : List Record) → one ≡ rows ++ pieces → two ≡ one ++ touches → three ≡ two ++ hists → three ≡ rows ++ (pieces ++ (touches ++ hists))
in_order rows pieces touches hists one two three first second third =
    third
    ∙ ap (λ (xs : List Record). xs ++ hists) (second ∙ ap (λ (xs : List Record). xs ++ touches) first)
    ∙ append_assoc (rows ++ pieces) touches hists
    ∙ append_assoc rows pieces (touches ++ hists)

-- all that goes and comes
pub made_so : (rs : List Stored) (a : Space) (version place table stamp : ℕ) (es : List Entry) (history : Bool) (gone away dropped : List ℕ) (drawn traced : List PieceRecord) (rows hists one two three : List Record) → a.next_place ≡ place + 1
    → AreStamped table stamp es → has_history (parts_of rs).tables table ≡ history → IsRedrawn as_piece rs (pieces_of version es) gone drawn → IsRedrawn (touch_in a.number) rs (marks_of place a.log_length es) away traced → dropped ≡ gone ++ away
    → rows ≡ map records.Row (rows_in es) → hists ≡ map records.Hist (hists_if history a.number a.log_length es) → one ≡ rows ++ map records.Piece drawn → two ≡ one ++ map records.Touch (map (trace_at a.number place) traced) → three ≡ two ++ hists
    → AreMade rs a version es dropped three
unfolding redrawn_so
made_so rs a version place table stamp es history gone away dropped drawn traced rows hists one two three last stamped told pieces touches dropped_are rows_are hists_are first second third = record {
  drawn = drawn;
  traced = traced;
  redrawn = subst (λ (ids : List ℕ). Redrawn rs version a es ids drawn traced) (sym dropped_are) redrawn;
  are = in_order rows (map records.Piece drawn) (map records.Touch (map (trace_at a.number place) traced)) hists one two three first second third
      ∙ ap (λ (xs : List Record). xs ++ (map records.Piece drawn ++ (map records.Touch (map (trace_at a.number place) traced) ++ hists))) rows_are
      ∙ ap (λ (xs : List Trace). map records.Row (rows_in es) ++ (map records.Piece drawn ++ (map records.Touch xs ++ hists))) (back_so rs a version place es (gone ++ away) drawn traced redrawn refl)
      ∙ ap (λ (xs : List Record). map records.Row (rows_in es) ++ (map records.Piece drawn ++ (map records.Touch (map (trace_of a.number) traced) ++ xs)))
      (hists_are ∙ ap (map records.Hist) (sym (kept_told (parts_of rs).tables history a.number table stamp a.log_length es stamped told)));
}
  where
    redrawn : Redrawn rs version a es (gone ++ away) drawn traced
    redrawn = redrawn_so rs a version place es gone away drawn traced last pieces touches
