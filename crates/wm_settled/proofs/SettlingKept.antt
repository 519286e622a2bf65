-- What the batch that settles cells puts can be kept, and the ids that it has.
use Rattle.std.proofs.Common.{◌≡◌, ℕ, nat_lt, true, false, List, [], ◌∷◌, map, refl, ap, ◌∙◌}
use Rattle.std.proofs.lemmas.Bool.{and_from, and_parts, lt-ltb}
use Rattle.std.specs.List.{list_all}
use Rattle.wm_graph.specs.Parts.{parts_of}
use Rattle.wm_spec.specs.Records.{AreChanges, ids_differ}
use Rattle.wm_spec.specs.declared.record.Record.TheVariants as records
use Rattle.wm_spec.specs.declared.record.counters.Counters.{Counters}
use Rattle.wm_spec.specs.declared.record.piece.PieceRecord.{PieceRecord}
use Rattle.wm_spec.specs.declared.record.space.Space.{Space}
use Rattle.wm_spec.specs.declared.record.stored.Stored.{Stored}
use Rattle.wm_state.specs.Batches.{drop_one, is_dropped}
use Rattle.wm_state.specs.Drafts.{can_keep, is_kept, is_kept_change, mark_piece}
use Rattle.wm_state.specs.Touching.{drawn_all, trace_of}
use Rattle.wm_state.specs.Writes.{put_all}
use Rattle.wm_state.specs.declared.edit.NewMark.{NewMark}
use Rattle.wm_state.proofs.ByKind.{under_found}
use Rattle.wm_state.proofs.RowsStay.{LeavesRows, away_append, away_dropped, away_put, row_apart}
use Rattle.wm_written.proofs.DraftedWritten.{all_below}
use Rattle.wm_written.proofs.Ids.{ids_of-dropped}
use Rattle.wm_written.proofs.WrittenIds.{ids-put}
use Rattle.wm_written.proofs.WrittenKept.{drawn_kept, keeps_key, kept_dropped, kept_put}
use Rattle.wm_settled.specs.Settling.{Remarked, settle_batch}
use Rattle.wm_settled.proofs.SettlingBatch.{CountersAt}

-- ---- values

-- marks on keys that can be kept
kept_marks : (n : ℕ) (xs : List PieceRecord) → list_all keeps_key xs ≡ true → list_all is_kept (map records.Mark (map (trace_of n) xs)) ≡ true
kept_marks n [] all = refl
kept_marks n (x ∷ xs) all = let h = and_parts (keeps_key x) (list_all keeps_key xs) all in and_from (keeps_key x) _ h.0 (kept_marks n xs h.1)

new_kept : (place : ℕ) (ms : List NewMark) → list_all (λ (m : NewMark). list_all can_keep m.key) ms ≡ true → list_all keeps_key (map (mark_piece place) ms) ≡ true
new_kept place [] all = refl
new_kept place (m ∷ ms) all =
    let h = and_parts (list_all can_keep m.key) (list_all (λ (k : NewMark). list_all can_keep k.key) ms) all in and_from (list_all can_keep m.key) (list_all keeps_key (map (mark_piece place) ms)) h.0 (new_kept place ms h.1)

pub kept_settle : (rs : List Stored) (counters_id id : ℕ) (new : Counters) (a : Space) (ms : List NewMark) (ids : List ℕ) (drawn : List PieceRecord) → list_all (λ (m : NewMark). list_all can_keep m.key) ms ≡ true → Remarked rs a ms ids drawn
    → list_all is_kept_change (settle_batch counters_id new a.number ids id drawn) ≡ true
kept_settle rs counters_id id new a ms ids drawn all r =
    kept_dropped ids _
    (kept_put id (map records.Mark (map (trace_of a.number) drawn))
    (kept_marks a.number drawn (drawn_kept r.news (drawn_all a.number (parts_of rs).marks) drawn (r.newest.pass keeps_key (λ x from till is lower some upper. is) (new_kept r.place ms all)) r.marks)))

-- ---- ids

-- ids that differ, with one before them
one_before : (counters_id : ℕ) (ids : List ℕ) → is_dropped ids counters_id ≡ false → ids_differ ids ≡ true → ids_differ (counters_id ∷ ids) ≡ true
unfolding ids_differ
one_before counters_id ids one differ = rw one differ

pub changes_settle : (rs : List Stored) (counters_id id : ℕ) (c new : Counters) (a : Space) (ms : List NewMark) (ids : List ℕ) (drawn : List PieceRecord) → CountersAt rs counters_id id c → Remarked rs a ms ids drawn
    → AreChanges (settle_batch counters_id new a.number ids id drawn)
changes_settle rs counters_id id c new a ms ids drawn at r =
    ap (λ xs. ids_differ (counters_id ∷ xs)) (ids_of-dropped ids _)
    ∙ ids-put id (map records.Mark (map (trace_of a.number) drawn)) (counters_id ∷ ids) (one_before counters_id ids (r.gone counters_id (records.Counters c) at.counters) r.once)
    (and_from (nat_lt counters_id id) _ (lt-ltb counters_id id (under_found id rs counters_id (records.Counters c) at.under at.counters)) (all_below rs id ids at.under r.there))

-- a row is none of what the batch puts and drops
pub settle_away : (rs : List Stored) (counters_id id : ℕ) (c new : Counters) (a : Space) (ms : List NewMark) (ids : List ℕ) (drawn : List PieceRecord) → CountersAt rs counters_id id c → Remarked rs a ms ids drawn
    → LeavesRows rs (settle_batch counters_id new a.number ids id drawn)
settle_away rs counters_id id c new a ms ids drawn at r k q found = (
  row_apart rs counters_id k (records.Counters c) q at.counters refl found,
  away_append k (map drop_one ids) (put_all id (map records.Mark (map (trace_of a.number) drawn))) (away_dropped k ids (r.gone k (records.Row q) found))
      (away_put k id (map records.Mark (map (trace_of a.number) drawn)) (under_found id rs k (records.Row q) at.under found)),
)
