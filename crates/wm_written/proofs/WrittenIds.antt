-- The ids of the batches that write entries.
use Rattle.std.proofs.Common.{◌≡◌, ℕ, suc, ◌+◌, ◌==◌, nat_lt, true, false, List, [], ◌∷◌, ◌++◌, map, append_assoc, append-nil, sym, ap, ◌∙◌, length, arith}
use Rattle.std.proofs.lemmas.Bool.{and_from}
use Rattle.std.specs.List.{list_any}
use Rattle.wm_base.proofs.Plain.{nat_lt-apart, nat_lt-next}
use Rattle.wm_spec.specs.Records.{ids_differ, AreChanges}
use Rattle.wm_spec.specs.declared.record.Record.{Record}
use Rattle.wm_spec.specs.declared.record.batch.Change.{Change}
use Rattle.wm_spec.specs.declared.record.counters.Counters.{Counters}
use Rattle.wm_spec.specs.declared.record.hist.Hist.{Hist}
use Rattle.wm_spec.specs.declared.record.piece.PieceRecord.{PieceRecord}
use Rattle.wm_spec.specs.declared.record.row.RowRecord.{RowRecord}
use Rattle.wm_spec.specs.declared.record.space.Space.{Space}
use Rattle.wm_spec.specs.declared.record.trace.Trace.{Trace}
use Rattle.wm_spec.specs.declared.record.version.Version.{Version}
use Rattle.wm_state.specs.Batches.{put}
use Rattle.wm_state.specs.Writes.{put_all, write_batch, write_new_batch}
use Rattle.wm_state.proofs.Tests.{all_if, none_if}
use Rattle.wm_written.proofs.Behind.{new_records}
use Rattle.wm_written.proofs.Ids.{are_under, ids_differ-push, are_under-push, ids_of-dropped}

-- ---- ids

abbrev ids_of : List Change → List ℕ
ids_of cs = map (λ (c : Change). c.id) cs

-- new records, one list behind another
pub put_all-append : (id : ℕ) (xs ys : List Record) → put_all id (xs ++ ys) ≡ put_all id xs ++ put_all (id + length xs) ys
put_all-append id [] ys = ap (λ n. put_all n ys) (no_more id)
  where
    no_more : (n : ℕ) → n ≡ n + 0
    no_more n = omega arith
put_all-append id (x ∷ xs) ys = ap (λ cs. put id x ∷ cs) (put_all-append (id + 1) xs ys ∙ ap (λ n. put_all (id + 1) xs ++ put_all n ys) (one_more id (length xs)))
  where
    one_more : (n k : ℕ) → n + 1 + k ≡ n + suc k
    one_more n k = omega arith

-- ids from one on are none of those below it
pub ids-put : (id : ℕ) (rs : List Record) (ids : List ℕ) → ids_differ ids ≡ true → are_under id ids ≡ true → ids_differ (ids ++ ids_of (put_all id rs)) ≡ true
ids-put id [] ids differ under = ap ids_differ (append-nil ids) ∙ differ
ids-put id (r ∷ rs) ids differ under =
    ap ids_differ (sym (append_assoc ids (id ∷ []) (ids_of (put_all (id + 1) rs))))
    ∙ ids-put (id + 1) rs (ids ++ id ∷ []) (ids_differ-push id ids differ under) (are_under-push id ids under)

-- the batch that writes entries, where what it puts and drops is below the new ids
pub changes-write : (counters_id : ℕ) (new : Counters) (space_id : ℕ) (a : Space) (count : ℕ) (ids : List ℕ) (id : ℕ) (rows : List RowRecord) (pieces : List PieceRecord) (touches : List Trace) (hists : List Hist)
    → ids_differ (counters_id ∷ space_id ∷ ids) ≡ true → are_under id (counters_id ∷ space_id ∷ ids) ≡ true → AreChanges (write_batch counters_id new space_id a count ids id rows pieces touches hists)
changes-write counters_id new space_id a count ids id rows pieces touches hists differ under =
    ap (λ xs. ids_differ (counters_id ∷ space_id ∷ xs)) (ids_of-dropped ids _) ∙ ids-put id (new_records rows pieces touches hists) (counters_id ∷ space_id ∷ ids) differ under

-- and the one that makes a version first
pub changes-write_new : (counters_id : ℕ) (new : Counters) (space_id : ℕ) (a : Space) (count : ℕ) (ids : List ℕ) (id : ℕ) (v : Version) (rows : List RowRecord) (pieces : List PieceRecord) (touches : List Trace) (hists : List Hist)
    → ids_differ (counters_id ∷ space_id ∷ ids) ≡ true → are_under id (counters_id ∷ space_id ∷ ids) ≡ true → AreChanges (write_new_batch counters_id new space_id a count ids id v rows pieces touches hists)
unfolding ids_differ
changes-write_new counters_id new space_id a count ids id v rows pieces touches hists differ under =
    ap (λ xs. ids_differ (id ∷ counters_id ∷ space_id ∷ xs)) (ids_of-dropped ids _)
    ∙ ids-put (id + 1) (new_records rows pieces touches hists) (id ∷ counters_id ∷ space_id ∷ ids) (rw (none_at id (counters_id ∷ space_id ∷ ids) under) differ)
    (and_from (nat_lt id (id + 1)) (are_under (id + 1) (counters_id ∷ space_id ∷ ids)) (nat_lt-next id) (all_if (λ k. nat_lt k id) (λ k. nat_lt k (id + 1)) (lt_next id) (counters_id ∷ space_id ∷ ids) under))
  where
    none_at : (n : ℕ) (ks : List ℕ) → are_under n ks ≡ true → list_any (λ other. other == n) ks ≡ false
    none_at n ks all = none_if (λ k. nat_lt k n) (λ other. other == n) (λ k lt. nat_lt-apart k n lt) ks all

    lt_next : (n k : ℕ) → nat_lt k n ≡ true → nat_lt k (n + 1) ≡ true
    lt_next n k lt = grind (arith, lt)
