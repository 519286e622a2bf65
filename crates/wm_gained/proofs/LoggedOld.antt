-- What comes into a log of entries that were made before: they may come, and their cells are touched.
use Rattle.std.proofs.Common.{◌≡◌, ℕ, ◌+◌, ◌^◌, ◌≤◌, ◌==◌, nat_lt, nat_le, true, false, List, [], ◌∷◌, ◌++◌, map, Some, length, length-append, refl, sym, ap, ◌∙◌, arith}
use Rattle.std.proofs.lemmas.Bool.{and_parts}
use Rattle.std.specs.List.{All, filter, list_all}
use Rattle.wm_base.proofs.Plain.{nat_le-itself}
use Rattle.wm_graph.specs.Parts.{Parts, space_of, table_of}
use Rattle.wm_graph.specs.Rules.{are_counters, are_pieces, are_spaces, differ, is_touch, keep_rules, meet}
use Rattle.wm_spec.specs.Lists.{Entry}
use Rattle.wm_spec.specs.declared.record.counters.Counters.{Counters}
use Rattle.wm_spec.specs.declared.record.piece.PieceRecord.{PieceRecord}
use Rattle.wm_spec.specs.declared.record.space.Space.{Space}
use Rattle.wm_spec.specs.declared.record.trace.Trace.{Trace}
use Rattle.wm_state.specs.Drawing.{AreDrawn, touched as met_by}
use Rattle.wm_state.specs.Entries.{hists_kept}
use Rattle.wm_state.specs.Standing.{has_history}
use Rattle.wm_state.specs.Touching.{AreMarked, Touched, drawn_all, is_unmet, marks_of, trace_of}
use Rattle.wm_state.specs.Writes.{longer_by}
use Rattle.wm_state.proofs.Apart.{ruled}
use Rattle.wm_state.proofs.Respaced.{space_elsewhere, space_here}
use Rattle.wm_written.proofs.EntryRecords.{hists_differ, hists_on}
use Rattle.wm_written.proofs.KeepWritten.{spaces_longer}
use Rattle.wm_written.proofs.PlannedWritten.{all_behind}
use Rattle.wm_written.proofs.TouchesKept.{marked_apart, marked_longer}
use Rattle.wm_written.proofs.Touching.{touched_so}
use Rattle.wm_gained.proofs.KeepLogged.{Coming, MayCome}
use Rattle.wm_gained.proofs.OldEntries.{hists_old, on_old}
use Rattle.wm_state.specs.Drafts.{AreOld, IsCopied}

-- what is asked of entries that come into the log of a workspace
pub record MayLog (p : Parts) (old new : Counters) (a : Space) (es : List Entry) : Type 0 where
  pub one : p.counters ≡ old ∷ []
  pub counters : are_counters new ≡ true
  pub stamps : new.next_stamp ≡ old.next_stamp
  pub versions : new.next_version ≡ old.next_version
  pub work : old.work ≤ new.work
  pub space : space_of p.spaces a.number ≡ Some a
  pub room : nat_le (a.log_length + length es) (2 ^ 62) ≡ true
  pub made : AreOld p old es
  pub copied : All (λ (e : Entry). has_history p.tables e.table ≡ true → IsCopied p e) es

-- what is traced for their cells
pub record AreTraced (p : Parts) (a : Space) (place : ℕ) (es : List Entry) (traced : List PieceRecord) : Type 0 where
  pub last : a.next_place ≡ place + 1
  pub marks : AreDrawn (marks_of place a.log_length es) (met_by (marks_of place a.log_length es) (drawn_all a.number p.touches)) traced

-- the touches then
abbrev pub touches_then : Parts → Space → ℕ → List Entry → List PieceRecord → List Trace
touches_then p a place es traced = filter (is_unmet a.number (marks_of place a.log_length es)) p.touches ++ map (trace_of a.number) traced

-- what comes, with the pieces that are there then
abbrev pub coming : Parts → Space → ℕ → List Entry → List PieceRecord → List PieceRecord → Coming
coming p a place es traced pieces = record { pieces = pieces; touches = touches_then p a place es traced; hists = hists_kept p.tables a.number a.log_length es }

module _ (p : Parts) (old new : Counters) (a : Space) (place : ℕ) (es : List Entry) (traced : List PieceRecord) (front back : List Space) (rules : keep_rules p ≡ true) (may : MayLog p old new a es)
    (are : AreTraced p a place es traced) (spaces : p.spaces ≡ front ++ a ∷ back) where
  abbrev b : Space
  b = longer_by (length es) a

  longer : are_spaces (front ++ b ∷ back) ≡ true
  longer = spaces_longer p front back a (length es) rules spaces may.room

  -- the workspace's record, the others, and how many there are
  pub space_longer : space_of (front ++ b ∷ back) a.number ≡ Some b
  space_longer = space_here front back b a.number longer refl

  pub space_still : (m : ℕ) → (m == a.number) ≡ false → space_of (front ++ b ∷ back) m ≡ space_of p.spaces m
  space_still m other = space_elsewhere front back a b m apart apart ∙ ap (λ ss. space_of ss m) (sym spaces)
    where
      apart : a.number ≡ m → ⊥
      apart same = grind (arith, other, same)

  pub spaces_count : length (front ++ b ∷ back) ≡ length p.spaces
  spaces_count = length-append front (b ∷ back) ∙ sym (length-append front (a ∷ back)) ∙ sym (ap length spaces)

  marked : AreMarked a.number (marks_of place a.log_length es) p.touches (touches_then p a place es traced)
  marked = record { drawn = traced; are = are.marks; is = refl }

  -- the touches of before
  touches_before : (differ meet p.touches ≡ true) × (list_all (is_touch (table_of p.tables) (space_of p.spaces)) p.touches ≡ true)
  touches_before = and_parts (differ meet p.touches) (list_all (is_touch (table_of p.tables) (space_of p.spaces)) p.touches) (ruled p rules).touches

  -- they may come, whatever pieces are there then that keep their rules
  pub may_come : (pieces : List PieceRecord) → are_pieces (record p { pieces = pieces }) old.next_stamp ≡ true → MayCome p old new front a back (length es) (coming p a place es traced pieces)
  may_come pieces well = record {
    one = may.one;
    counters = may.counters;
    stamps = may.stamps;
    versions = may.versions;
    work = may.work;
    spaces = spaces;
    room = may.room;
    pieces = well;
    touches_differ = marked_apart a.number place a.log_length es p.touches (touches_then p a place es traced) touches_before.0 marked;
    touches_well = marked_longer (table_of p.tables) (space_of p.spaces) (space_of (front ++ b ∷ back)) a.number place a es p.touches (touches_then p a place es traced) may.space space_longer space_still
        (given a.next_place are.last) (on_old p old es may.made) touches_before.1 marked;
    hists_well = hists_old p old (space_of (front ++ b ∷ back)) a.number a.log_length b es may.made may.copied space_longer (nat_le-itself (a.log_length + length es));
    hists_differ = hists_differ p.tables a.number a.log_length es;
    hists_new = hists_on p.tables a.number a.log_length a.log_length es (nat_le-itself a.log_length);
  }
    where
      given : (next : ℕ) → next ≡ place + 1 → nat_lt place next ≡ true
      given next same = grind (arith, same)

  -- and their cells are touched
  pub touched_then : Touched a.number place a.log_length es p.touches (touches_then p a place es traced)
  touched_then = touched_so a.number place a.log_length es p.touches (touches_then p a place es traced) touches_before.0 (all_behind p a.number a p.touches may.space touches_before.1) marked
