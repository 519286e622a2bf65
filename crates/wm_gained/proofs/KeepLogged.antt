-- The rules hold of the records with more entries of a log that were made before: no stamp is given and no row comes.
use Rattle.std.proofs.Common.{◌≡◌, ℕ, ◌+◌, ◌^◌, ◌≤◌, ◌==◌, nat_le, true, ◌&&◌, List, [], ◌∷◌, ◌++◌, refl, sym, ap, ◌∙◌}
use Rattle.std.proofs.lemmas.Bool.{and_from, le-leb}
use Rattle.std.specs.List.{list_all}
use Rattle.wm_base.proofs.Plain.{nat_le-itself, nat_le-more}
use Rattle.wm_graph.specs.Parts.{Parts, row_of, space_of, table_of}
use Rattle.wm_graph.specs.Rules.{are_counters, are_hists, are_locks, are_pieces, are_rows, are_savepoints, are_spaces, are_versions, differ, has_few, is_hist, is_touch, keep_rules, meet, same_position}
use Rattle.wm_spec.specs.declared.record.counters.Counters.{Counters}
use Rattle.wm_spec.specs.declared.record.hist.Hist.{Hist}
use Rattle.wm_spec.specs.declared.record.piece.PieceRecord.{PieceRecord}
use Rattle.wm_spec.specs.declared.record.space.Space.{Space}
use Rattle.wm_spec.specs.declared.record.trace.Trace.{Trace}
use Rattle.wm_state.specs.Writes.{longer_by}
use Rattle.wm_state.proofs.Apart.{Ruled, keeps_all, ruled}
use Rattle.wm_state.proofs.Growing.{same_counters}
use Rattle.wm_state.proofs.Keeping.{KeepRows-same, KeepSpaces, KeepSpaces-swap, KeepTables-same, KeepVersions-same, are_savepoints-kept}
use Rattle.wm_state.proofs.KeepingTurns.{are_locks-kept, are_marks-kept, are_turns-kept, turned-swap}
use Rattle.wm_state.proofs.Named.{ruled_savepoints}
use Rattle.wm_state.proofs.Respaced.{MayReplace, space_here, versions_replaced}
use Rattle.wm_state.proofs.Tests.{all_middle, all_swap}
use Rattle.wm_written.proofs.KeepWritten.{hists_kept, spaces_longer}

-- what is there then of pieces and touches, and what comes of a log's entries
pub record Coming : Type 0 where
  pub pieces : List PieceRecord
  pub touches : List Trace
  pub hists : List Hist

-- the records with that, a log of one workspace that is longer by so many, and other counters
abbrev pub all_logged : Parts → Counters → List Space → Space → List Space → ℕ → Coming → Parts
all_logged p c front a back k e = record p {
  counters = c ∷ [];
  spaces = front ++ longer_by k a ∷ back;
  pieces = e.pieces;
  touches = e.touches;
  hists = p.hists ++ e.hists;
}

-- what is asked of it: the pieces and the touches keep their rules, and the entries have new positions of the log that is longer, each its
-- own
pub record MayCome (p : Parts) (old new : Counters) (front : List Space) (a : Space) (back : List Space) (k : ℕ) (e : Coming) : Type 0 where
  pub one : p.counters ≡ old ∷ []
  pub counters : are_counters new ≡ true
  pub stamps : new.next_stamp ≡ old.next_stamp
  pub versions : new.next_version ≡ old.next_version
  pub work : old.work ≤ new.work
  pub spaces : p.spaces ≡ front ++ a ∷ back
  pub room : nat_le (a.log_length + k) (2 ^ 62) ≡ true
  pub pieces : are_pieces (record p { pieces = e.pieces }) old.next_stamp ≡ true
  pub touches_differ : differ meet e.touches ≡ true
  pub touches_well : list_all (is_touch (table_of p.tables) (space_of (front ++ longer_by k a ∷ back))) e.touches ≡ true
  pub hists_well : list_all (is_hist (table_of p.tables) (space_of (front ++ longer_by k a ∷ back)) (row_of p.rows) old.next_stamp) e.hists ≡ true
  pub hists_differ : differ same_position e.hists ≡ true
  pub hists_new : list_all (λ (x : Hist). (x.space == a.number) && nat_le a.log_length x.position) e.hists ≡ true

pub keep-logged : (p : Parts) (old new : Counters) (front : List Space) (a : Space) (back : List Space) (k : ℕ) (e : Coming) → MayCome p old new front a back k e → keep_rules p ≡ true → keep_rules (all_logged p new front a back k e) ≡ true
keep-logged p old new front a back k e may rules = keeps_all q new refl may.counters
    rule.tables
    (spaces_longer p front back a k rules may.spaces may.room)
    (ap (are_versions q) may.versions
    ∙ versions_replaced p q front back a (longer_by k a) old.next_version longer_may may.spaces refl refl (ap (λ (c : Counters). are_versions p c.next_version) same ∙ rule.versions))
    (are_savepoints-kept p q old.work new.work worked spaces (KeepVersions-same p q refl) refl few savepoints)
    (ap (are_rows p) may.stamps ∙ ap (λ (c : Counters). are_rows p c.next_stamp) same ∙ rule.rows)
    (ap (are_pieces (record p { pieces = e.pieces })) may.stamps ∙ may.pieces)
    (hists_kept p q old.next_stamp new.next_stamp a e.hists (ap (nat_le old.next_stamp) may.stamps ∙ nat_le-itself old.next_stamp) (KeepTables-same p q refl) spaces (KeepRows-same p q refl) refl
    (ap (λ ss. space_of ss a.number) may.spaces ∙ space_here front back a a.number before refl)
    (ap (λ n. list_all (is_hist (table_of p.tables) (space_of (front ++ longer_by k a ∷ back)) (row_of p.rows) n) e.hists) may.stamps ∙ may.hists_well)
    may.hists_differ may.hists_new (ap (λ (c : Counters). are_hists p c.next_stamp) same ∙ rule.hists))
    (and_from (differ meet q.touches) (list_all (is_touch (table_of q.tables) (space_of q.spaces)) q.touches) may.touches_differ may.touches_well)
    (are_locks-kept p q old.work new.work worked (KeepTables-same p q refl) spaces refl (ap (λ (c : Counters). are_locks p c.work) same ∙ rule.locks))
    (are_marks-kept p q (KeepTables-same p q refl) spaces refl rule.marks)
    (are_turns-kept p q spaces refl (turned-swap p q front back a (longer_by k a) refl refl may.spaces refl rule.turns) rule.turns)
  where
    q : Parts
    q = all_logged p new front a back k e

    rule : Ruled p
    rule = ruled p rules

    same : old ≡ rule.counters
    same = same_counters p rule.counters old rule.one may.one

    longer_may : MayReplace a (longer_by k a)
    longer_may = record { number = refl; name = refl; parent = refl; birth = refl; base = refl }

    worked : nat_le old.work new.work ≡ true
    worked = le-leb old.work new.work may.work

    before : are_spaces (front ++ a ∷ back) ≡ true
    before = ap are_spaces (sym may.spaces) ∙ rule.spaces

    spaces : KeepSpaces p q
    spaces = KeepSpaces-swap p q front back a (longer_by k a) refl refl (nat_le-more a.log_length k) (nat_le-itself a.next_place) refl may.spaces refl

    savepoints : are_savepoints p old.work ≡ true
    savepoints = ap (λ (c : Counters). are_savepoints p c.work) same ∙ rule.savepoints

    few : list_all (has_few p.savepoints) q.spaces ≡ true
    few =
        let all : list_all (has_few p.savepoints) (front ++ a ∷ back) ≡ true = ap (list_all (has_few p.savepoints)) (sym may.spaces) ∙ (ruled_savepoints p old.work savepoints).few in
        all_swap (has_few p.savepoints) (has_few p.savepoints) a (longer_by k a) front back (λ s h. h) (all_middle (has_few p.savepoints) a front back all) all
