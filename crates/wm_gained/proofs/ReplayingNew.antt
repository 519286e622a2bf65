-- Entries of which no two share a cell, in a version where no piece is yet: their pieces come as they are, and of the records that stand
-- touches alone go.
use Rattle.std.proofs.Common.{◌≡◌, ℕ, ◌==◌, nat_lt, Bool, true, false, not, List, [], ◌∷◌, ◌++◌, Some, refl, sym, ap, subst, ◌∙◌, arith}
use Rattle.std.proofs.lemmas.Bool.{eq-eqb, and_parts, not-true}
use Rattle.std.specs.Bool.{then_some}
use Rattle.std.specs.List.{list_all, list_any}
use Rattle.std.specs.Option.{option_or}
use Rattle.wm_base.proofs.Plain.{option_or-none}
use Rattle.wm_graph.specs.Parts.{as_piece, parts_of}
use Rattle.wm_graph.specs.Rules.{collide, differ, keep_rules}
use Rattle.wm_spec.specs.Lists.{Cell, Entry}
use Rattle.wm_spec.specs.Records.{record_at}
use Rattle.wm_spec.specs.declared.record.Record.{Record}
use Rattle.wm_spec.specs.declared.record.Record.TheVariants as records
use Rattle.wm_spec.specs.declared.record.piece.PieceRecord.{PieceRecord}
use Rattle.wm_spec.specs.declared.record.space.Space.{Space}
use Rattle.wm_spec.specs.declared.record.stored.Stored.{Stored}
use Rattle.wm_tree.specs.Versions.{AllBelow}
use Rattle.wm_state.specs.Drawing.{AreDrawn, is_clear, stored_last, touched as met_by}
use Rattle.wm_state.specs.Entries.{piece_of, pieces_of}
use Rattle.wm_state.specs.Standing.{covers_at, held_by, newest_first, stored_at}
use Rattle.wm_state.specs.Touching.{is_unmet, marks_of}
use Rattle.wm_state.specs.Writes.{Redrawn, keeps_both}
use Rattle.wm_state.proofs.Above.{pieces_lower}
use Rattle.wm_state.proofs.ByKind.{Split, kinds, kinds-one, split_of, stored}
use Rattle.wm_state.proofs.DrawingEnds.{ends-of}
use Rattle.wm_state.proofs.Tests.{all_middle}
use Rattle.wm_written.proofs.Touched.{only-one}
use Rattle.wm_gained.specs.Gaining.{Retraced}

-- ---- pieces that do not collide

-- the last of them that covers a cell is the first
last_first : (xs : List PieceRecord) → differ collide xs ≡ true → (w : ℕ) (c : Cell) → stored_at xs w c ≡ stored_last xs w c
last_first [] apart w c = refl
last_first (x ∷ xs) apart w c =
    let h = and_parts (not (list_any (collide x) xs)) (differ collide xs) apart in by_test (covers_at x w c) refl (not-true (list_any (collide x) xs) h.0) (last_first xs h.1 w c)
  where
    by_test : (b : Bool) → covers_at x w c ≡ b → list_any (collide x) xs ≡ false → stored_at xs w c ≡ stored_last xs w c
        → option_or (then_some b (held_by x)) (stored_at xs w c) ≡ option_or (stored_last xs w c) (then_some b (held_by x))
    by_test true is free rest = ap (λ o. option_or o (Some (held_by x))) (sym (sym rest ∙ only-one x w c is xs free))
    by_test false is free rest = rest ∙ sym (option_or-none (stored_last xs w c))

-- so they stand for themselves, over nothing
pub drawn_alone : (news : List PieceRecord) → differ collide news ≡ true → AreDrawn news [] news
drawn_alone news apart = record {
  held = λ w c. last_first news apart w c ∙ sym (option_or-none (stored_last news w c));
  differ = apart;
  pass = λ test parts olds passed. passed;
  ends = ends-of news news (λ P e. e);
}

-- ---- pieces of a version above all others

-- a piece of a version below is clear of them
clear_above : (version : ℕ) (es : List Entry) (y : PieceRecord) → nat_lt y.version version ≡ true → is_clear (pieces_of version es) y ≡ true
clear_above version [] y lt = refl
clear_above version (e ∷ es) y lt = rw (apart version y.version lt) (clear_above version es y lt)
  where
    apart : (m k : ℕ) → nat_lt k m ≡ true → (m == k) ≡ false
    apart m k below = grind (arith, below)

none_met : (version : ℕ) (es : List Entry) (xs : List PieceRecord) → list_all (λ (x : PieceRecord). nat_lt x.version version) xs ≡ true → met_by (pieces_of version es) xs ≡ []
none_met version es [] all = refl
none_met version es (x ∷ xs) all =
    let h = and_parts (nat_lt x.version version) (list_all (λ (y : PieceRecord). nat_lt y.version version) xs) all in
    rw (clear_above version es x h.0) (none_met version es xs h.1)

-- a record of a piece is one of the pieces
pieces_split : (front back : List Stored) (id : ℕ) (y : PieceRecord) → (parts_of (front ++ stored id (records.Piece y) ∷ back)).pieces ≡ kinds as_piece front ++ y ∷ kinds as_piece back
unfolding parts_of
pieces_split front back id y = kinds-one as_piece front back id (records.Piece y) y refl

piece_passes : (ss : List Stored) (test : PieceRecord → Bool) (id : ℕ) (y : PieceRecord) → list_all test (parts_of ss).pieces ≡ true → record_at ss id ≡ Some (records.Piece y) → test y ≡ true
piece_passes ss test id y all found = by_split (split_of ss id (records.Piece y) found)
  where
    by_split : Split ss id (records.Piece y) → test y ≡ true
    by_split s = all_middle test y (kinds as_piece s.front) (kinds as_piece s.back) (sym (ap (list_all test) (ap (λ xs. (parts_of xs).pieces) s.is ∙ pieces_split s.front s.back id y)) ∙ all)

-- ---- the law

-- two pieces of one version collide as those of another do
pub apart_anywhere : (version : ℕ) (es : List Entry) → differ collide (pieces_of 0 es) ≡ true → differ collide (pieces_of version es) ≡ true
apart_anywhere version es apart = same es ∙ apart
  where
    free : (e : Entry) (fs : List Entry) → list_any (collide (piece_of version e)) (pieces_of version fs) ≡ list_any (collide (piece_of 0 e)) (pieces_of 0 fs)
    free e [] = refl
    free e (f ∷ fs) = rw (eq-eqb version version refl, free e fs) refl

    same : (fs : List Entry) → differ collide (pieces_of version fs) ≡ differ collide (pieces_of 0 fs)
    same [] = refl
    same (f ∷ fs) = rw (free f fs, same fs) refl

-- what is traced for entries is all that is drawn, but for their own pieces
pub redrawn_new : (ss : List Stored) (version : ℕ) (a : Space) (es : List Entry) (ids : List ℕ) (traced : List PieceRecord) → keep_rules (parts_of ss) ≡ true → AllBelow version (newest_first (parts_of ss).versions)
    → differ collide (pieces_of version es) ≡ true → Retraced ss a es ids traced → Redrawn ss version a es ids (pieces_of version es) traced
redrawn_new ss version a es ids traced rules below apart r = record {
  place = r.place;
  last = r.last;
  pieces = subst (λ old. AreDrawn (pieces_of version es) old (pieces_of version es)) (sym (none_met version es (parts_of ss).pieces lower)) (drawn_alone (pieces_of version es) apart);
  marks = r.marks;
  gone = λ id x found. r.gone id x found ∙ ap not (same id x found);
  once = r.once;
  there = r.there;
}
  where
    lower : list_all (λ (x : PieceRecord). nat_lt x.version version) (parts_of ss).pieces ≡ true
    lower = pieces_lower (parts_of ss) rules version below

    same : (id : ℕ) (x : Record) → record_at ss id ≡ Some x
        → keeps_both (λ y. true) (is_unmet a.number (marks_of r.place a.log_length es)) x ≡ keeps_both (is_clear (pieces_of version es)) (is_unmet a.number (marks_of r.place a.log_length es)) x
    same id (records.Piece y) found = sym (clear_above version es y (piece_passes ss (λ (x : PieceRecord). nat_lt x.version version) id y lower found))
    same id _ found = refl
