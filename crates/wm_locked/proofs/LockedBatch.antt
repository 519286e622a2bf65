-- What the batches that make locks and let locks go make of the records.
use Rattle.std.proofs.Common.{◌≡◌, ℕ, ◌+◌, Bool, true, false, cond, List, [], ◌∷◌, ◌++◌, map, Some, refl, sym, ap, ◌∙◌}
use Rattle.std.specs.List.{filter}
use Rattle.wm_graph.specs.Parts.{Parts, parts_of}
use Rattle.wm_spec.specs.Records.{record_at}
use Rattle.wm_spec.specs.declared.record.Record.{Record}
use Rattle.wm_spec.specs.declared.record.Record.TheVariants as records
use Rattle.wm_spec.specs.declared.record.counters.Counters.{Counters}
use Rattle.wm_spec.specs.declared.record.lock.Lock.{Lock}
use Rattle.wm_spec.specs.declared.record.stored.Stored.{Stored}
use Rattle.wm_state.specs.Batches.{AllUnder, AreDropped, drop_one, is_dropped}
use Rattle.wm_state.specs.ById.{Ascend, applied, set_at}
use Rattle.wm_state.proofs.ById.{Ascend-set}
use Rattle.wm_state.proofs.ByKind.{stored}
use Rattle.wm_state.proofs.Planned.{AllUnder-set, counted}
use Rattle.wm_written.proofs.Behind.{parts-locked}
use Rattle.wm_written.proofs.Dropping.{dropped, dropped-set}
use Rattle.wm_locked.specs.Locking.{keeps_locks, lock_batch, unlock_batch}
use Rattle.wm_locked.proofs.LockedRules.{relocked}

-- the counters have their id, and all ids are under the next
pub record CountersAt (ss : List Stored) (counters_id id : ℕ) (c : Counters) : Type 0 where
  pub sorted : Ascend ss
  pub counters : record_at ss counters_id ≡ Some (records.Counters c)
  pub one : (parts_of ss).counters ≡ c ∷ []
  pub under : AllUnder id ss

pub parts-lock : (ss : List Stored) (counters_id id : ℕ) (old new : Counters) (xs : List Lock) → CountersAt ss counters_id id old → parts_of (applied (lock_batch counters_id new id xs) ss) ≡ relocked (parts_of ss) new ((parts_of ss).locks ++ xs)
parts-lock ss counters_id id old new xs at =
    parts-locked id xs (set_at counters_id (Some (records.Counters new)) ss) (AllUnder-set id ss counters_id (records.Counters old) (records.Counters new) at.sorted at.counters at.under)
    ∙ ap (λ (p : Parts). record p { locks = p.locks ++ xs }) (counted ss counters_id old new at.sorted at.counters at.one)

-- of records that a test of locks keeps, the locks are those that it passes
parts-unlocked : (test : Lock → Bool) (ss : List Stored) → parts_of (filter (λ (s : Stored). keeps_locks test s.record) ss) ≡ record (parts_of ss) { locks = filter test (parts_of ss).locks }
unfolding parts_of
parts-unlocked test [] = refl
parts-unlocked test (s ∷ ss) = by_record s.record (parts-unlocked test ss)
  where
    rest : List Stored
    rest = filter (λ (s : Stored). keeps_locks test s.record) ss

    after : Parts
    after = record (parts_of ss) { locks = filter test (parts_of ss).locks }

    by_lock : (x : Lock) → parts_of rest ≡ after → (b : Bool) → parts_of (cond b (stored s.id (records.Lock x) ∷ rest) rest) ≡ record after { locks = cond b (x ∷ after.locks) after.locks }
    by_lock x same true = ap (λ (p : Parts). record p { locks = x ∷ p.locks }) same
    by_lock x same false = same

    by_record : (r : Record) → parts_of rest ≡ after → parts_of (cond (keeps_locks test r) (stored s.id r ∷ rest) rest) ≡ record (parts_of (stored s.id r ∷ ss)) { locks = filter test (parts_of (stored s.id r ∷ ss)).locks }
    by_record (records.Lock x) same = by_lock x same (test x)
    by_record (records.Piece x) same = ap (λ (p : Parts). record p { pieces = x ∷ p.pieces }) same
    by_record (records.Touch x) same = ap (λ (p : Parts). record p { touches = x ∷ p.touches }) same
    by_record (records.Counters x) same = ap (λ (p : Parts). record p { counters = x ∷ p.counters }) same
    by_record (records.Table x) same = ap (λ (p : Parts). record p { tables = x ∷ p.tables }) same
    by_record (records.Space x) same = ap (λ (p : Parts). record p { spaces = x ∷ p.spaces }) same
    by_record (records.Version x) same = ap (λ (p : Parts). record p { versions = x ∷ p.versions }) same
    by_record (records.Savepoint x) same = ap (λ (p : Parts). record p { savepoints = x ∷ p.savepoints }) same
    by_record (records.Row x) same = ap (λ (p : Parts). record p { rows = x ∷ p.rows }) same
    by_record (records.Hist x) same = ap (λ (p : Parts). record p { hists = x ∷ p.hists }) same
    by_record (records.Mark x) same = ap (λ (p : Parts). record p { marks = x ∷ p.marks }) same
    by_record (records.Turn x) same = ap (λ (p : Parts). record p { turns = x ∷ p.turns }) same

pub parts-unlock : (ss : List Stored) (counters_id id : ℕ) (old new : Counters) (stays : Lock → Bool) (ids : List ℕ) → CountersAt ss counters_id id old → AreDropped (keeps_locks stays) ids ss
    → parts_of (applied (unlock_batch counters_id new ids) ss) ≡ relocked (parts_of ss) new (filter stays (parts_of ss).locks)
parts-unlock ss counters_id id old new stays ids at are =
    ap parts_of (dropped (keeps_locks stays) ids first (Ascend-set counters_id (Some (records.Counters new)) ss at.sorted) (dropped-set (keeps_locks stays) ids ss counters_id (records.Counters new) at.sorted refl (are counters_id (records.Counters old) at.counters) are))
    ∙ parts-unlocked stays first
    ∙ ap (λ (p : Parts). record p { locks = filter stays p.locks }) (counted ss counters_id old new at.sorted at.counters at.one)
  where
    first : List Stored
    first = set_at counters_id (Some (records.Counters new)) ss
