-- What the batches that make locks and let locks go make of each state.
use Rattle.std.proofs.Common.{◌≡◌, ℕ, ◌+◌, ◌-◌, ◌≤◌, nat_lt, nat_le, Bool, true, false, List, [], ◌∷◌, ◌++◌, map, length, Some, refl, sym, ap, subst, ◌∙◌, arith}
use Rattle.std.proofs.lemmas.Bool.{and_from, and_parts, lt-ltb, true≢false}
use Rattle.std.specs.List.{filter, list_all}
use Rattle.std.specs.Option.{option_map_or}
use Rattle.wm_graph.specs.Parts.{Parts, parts_of, space_of, table_of}
use Rattle.wm_graph.specs.Rules.{is_given, keep_rules}
use Rattle.wm_spec.specs.Records.{AreChanges, ids_differ}
use Rattle.wm_spec.specs.declared.record.Record.TheVariants as records
use Rattle.wm_spec.specs.declared.record.batch.Change.{Change}
use Rattle.wm_spec.specs.declared.record.counters.Counters.{Counters}
use Rattle.wm_spec.specs.declared.record.lock.Lock.{Lock}
use Rattle.wm_spec.specs.declared.record.lock.LockMode.{LockMode}
use Rattle.wm_spec.specs.declared.record.space.Space.{Space}
use Rattle.wm_spec.specs.declared.record.stored.Stored.{Stored}
use Rattle.wm_state.specs.Batches.{AreDropped, drop_one, is_dropped, put}
use Rattle.wm_state.specs.ById.{applied}
use Rattle.wm_state.specs.Drafts.{CanLock, CanWork, DraftsBy, can_keep, is_kept, is_kept_change}
use Rattle.wm_state.specs.Editing.{drafted_by, edited, lock_after, locked_in, locks_made, stays_locked, unlocked}
use Rattle.wm_state.specs.Points.{moved}
use Rattle.wm_state.specs.State.{Durable}
use Rattle.wm_state.specs.Standing.{CountersStand, FieldsStand, LocksStand, Stands}
use Rattle.wm_state.specs.Writes.{put_all}
use Rattle.wm_state.specs.declared.edit.Edit.TheVariants as edits
use Rattle.wm_state.specs.declared.edit.NewEntry.{NewEntry}
use Rattle.wm_state.specs.declared.edit.NewLock.{NewLock}
use Rattle.wm_state.proofs.ByKind.{under_found}
use Rattle.wm_state.proofs.Counting.{CountsAs, counts_as, counts_in, moved_well}
use Rattle.wm_state.proofs.Drafted.{some_edit}
use Rattle.wm_state.proofs.RowsStay.{LeavesRows, away_dropped, away_put, row_apart, rows_stay}
use Rattle.wm_state.proofs.WorkedOn.{counted_put, first_change}
use Rattle.wm_written.proofs.Ids.{ids_of-dropped}
use Rattle.wm_written.proofs.WrittenIds.{ids-put}
use Rattle.wm_written.proofs.WrittenKept.{kept_dropped, kept_put}
use Rattle.wm_locked.specs.Locking.{keeps_locks, lock_batch, unlock_batch}
use Rattle.wm_locked.proofs.LockedBatch.{CountersAt, parts-lock, parts-unlock}
use Rattle.wm_locked.proofs.LockedRules.{MayCount, keep-locked, keep-unlocked, relocked}
use Rattle.wm_locked.proofs.LockedStands.{FieldsStand-relocked, LocksStand-filter, LocksStand-made, Stands-relocked}

-- counters that have moved
counts_moved : (s u : Durable) (m work : ℕ) (c : Counters) → u.next_stamp ≡ s.next_stamp → u.limit ≡ s.limit → CountsAs c s → (q : Parts) → q.counters ≡ moved c m work ∷ [] → CountersStand q (record u { last_moment = m; work = s.work + work })
counts_moved s u m work c stamps limits counts q one = record {
  counters = moved c m work;
  one = one;
  next_stamp = counts.next_stamp ∙ sym stamps;
  last_moment = refl;
  limit = counts.limit ∙ sym limits;
  work = ap (λ w. w + work) counts.work;
}

may_count : (p : Parts) (m work count : ℕ) (c : Counters) → keep_rules p ≡ true → CanWork p m work → p.counters ≡ c ∷ [] → count ≤ work → MayCount p c (moved c m work) count
may_count p m work count c rules can one room = record { one = one; counters = moved_well p m work c rules can one; stamps = refl; versions = refl; room = more c.work count work room }
  where
    more : (a b d : ℕ) → b ≤ d → a + b ≤ a + d
    more a b d le = omega (arith, le)

-- ---- ids

one_id : (id : ℕ) → ids_differ (id ∷ []) ≡ true
unfolding ids_differ
one_id id = refl

-- ids that differ, with one before them
one_before : (id : ℕ) (ids : List ℕ) → is_dropped ids id ≡ false → ids_differ ids ≡ true → ids_differ (id ∷ ids) ≡ true
unfolding ids_differ
one_before id ids one differ = rw one differ

-- ---- locks are made

kept_locks : (n place : ℕ) (mode : LockMode) (user : List ℕ) (making : ℕ) (ys : List NewLock) → list_all (λ (x : NewLock). list_all can_keep x.key) ys ≡ true → list_all is_kept (map records.Lock (locks_made n place mode user making ys)) ≡ true
kept_locks n place mode user making [] all = refl
kept_locks n place mode user making (y ∷ ys) all =
    let h = and_parts (list_all can_keep y.key) (list_all (λ (x : NewLock). list_all can_keep x.key) ys) all in and_from (list_all can_keep y.key) _ h.0 (kept_locks n place mode user (making + 1) ys h.1)

-- the batch makes of the records what the edit makes of each state; there is as much work as there are locks
pub drafts_lock : (rs : List Stored) (m work : ℕ) (a : Space) (mode : LockMode) (user : List ℕ) (cells : List NewLock) (place : ℕ) (c : Counters) (counters_id id : ℕ) → keep_rules (parts_of rs) ≡ true → CanWork (parts_of rs) m work
    → length cells ≤ work → CanLock (parts_of rs) a.number user cells → space_of (parts_of rs).spaces a.number ≡ Some a → a.next_place ≡ place + 1 → CountersAt rs counters_id id c
    → DraftsBy work rs m (edits.Lock a.number mode user cells ∷ []) (lock_batch counters_id (moved c m work) id (locks_made a.number place mode user (lock_after (parts_of rs).locks) cells))
drafts_lock rs m work a mode user cells place c counters_id id rules can_work room can there last at = record {
  keeps = keeps;
  once = once;
  stands = λ s st.
      subst (λ q. Stands q (after s)) (sym parts)
      (Stands-relocked p d (p.locks ++ made) s (after s) st refl refl
      (subst (λ k. LocksStand-of k s) place_is (LocksStand-made p d s (after s) a.number a mode user cells st.spaces st.locks there refl))
      (counts_moved s (locked_in a.number mode user cells s) m work c refl refl (counts_as p s c st at.one) _ refl) rules_then);
  fields = λ s st.
      subst (λ q. FieldsStand q (after s)) (sym parts)
      (FieldsStand-relocked p d (p.locks ++ made) s (after s) st refl refl (counts_moved s (locked_in a.number mode user cells s) m work c refl refl (counts_in p s c st.counters at.one) _ refl));
  rows = rows_stay rs batch rows_away;
  kept = kept_put id (map records.Lock made) (kept_locks a.number place mode user (lock_after p.locks) cells can.kept);
  counted = λ some. counted_put rs work counters_id c d batch at.sorted at.one once (first_change counters_id _ _) keeps refl;
  nothing = some_edit (edits.Lock a.number mode user cells) [] batch;
  few = λ forks. absurd (true≢false (sym forks));
  spared = λ n more one_append. absurd (no_append n more one_append);
  turned = λ left. ap (λ (q : Parts). q.turns) parts;
}
  where
    p : Parts
    p = parts_of rs

    d : Counters
    d = moved c m work

    made : List Lock
    made = locks_made a.number place mode user (lock_after p.locks) cells

    batch : List Change
    batch = lock_batch counters_id d id made

    after : Durable → Durable
    after s = drafted_by work m (edits.Lock a.number mode user cells ∷ []) s

    LocksStand-of : ℕ → Durable → Type 0
    LocksStand-of k s = LocksStand (relocked p d (p.locks ++ locks_made a.number k mode user (lock_after p.locks) cells)) (after s)

    place_is : a.next_place - 1 ≡ place
    place_is = behind a.next_place place last
      where
        behind : (next k : ℕ) → next ≡ k + 1 → next - 1 ≡ k
        behind next k e = omega (arith, e)

    no_append : (n : ℕ) (more : List NewEntry) → edits.Lock a.number mode user cells ∷ [] ≡ edits.Append n more ∷ [] → ⊥
    no_append n more e = cc

    given : is_given (space_of p.spaces) a.number place ≡ true
    given = ap (λ o. option_map_or (λ (x : Space). nat_lt place x.next_place) o false) there ∙ below a.next_place place last
      where
        below : (next k : ℕ) → next ≡ k + 1 → nat_lt k next ≡ true
        below next k e = grind (arith, e)

    rules_then : keep_rules (relocked p d (p.locks ++ made)) ≡ true
    rules_then = keep-locked p c d a.number place mode user cells rules (may_count p m work (length cells) c rules can_work at.one room) can.short given can.cells

    parts : parts_of (applied batch rs) ≡ relocked p d (p.locks ++ made)
    parts = parts-lock rs counters_id id c d made at

    keeps : keep_rules (parts_of (applied batch rs)) ≡ true
    keeps = ap keep_rules parts ∙ rules_then

    once : AreChanges batch
    once = ids-put id (map records.Lock made) (counters_id ∷ []) (one_id counters_id) (and_from (nat_lt counters_id id) true (lt-ltb counters_id id (under_found id rs counters_id (records.Counters c) at.under at.counters)) refl)

    rows_away : LeavesRows rs batch
    rows_away k q found = (row_apart rs counters_id k (records.Counters c) q at.counters refl found, away_put k id (map records.Lock made) (under_found id rs k (records.Row q) at.under found))

-- ---- locks go

-- the batch makes of the records what the edit makes of each state
pub drafts_unlock : (rs : List Stored) (m work : ℕ) (makings : List ℕ) (ids : List ℕ) (c : Counters) (counters_id id : ℕ) → keep_rules (parts_of rs) ≡ true → CanWork (parts_of rs) m work
    → AreDropped (keeps_locks (stays_locked makings)) ids rs → ids_differ ids ≡ true → CountersAt rs counters_id id c
    → DraftsBy work rs m (edits.Unlock makings ∷ []) (unlock_batch counters_id (moved c m work) ids)
drafts_unlock rs m work makings ids c counters_id id rules can_work are apart at = record {
  keeps = keeps;
  once = once;
  stands = λ s st.
      subst (λ q. Stands q (after s)) (sym parts)
      (Stands-relocked p d (filter stays p.locks) s (after s) st refl refl (LocksStand-filter p d s (after s) stays st.locks refl)
      (counts_moved s (unlocked makings s) m work c refl refl (counts_as p s c st at.one) _ refl) rules_then);
  fields = λ s st.
      subst (λ q. FieldsStand q (after s)) (sym parts)
      (FieldsStand-relocked p d (filter stays p.locks) s (after s) st refl refl (counts_moved s (unlocked makings s) m work c refl refl (counts_in p s c st.counters at.one) _ refl));
  rows = rows_stay rs batch rows_away;
  kept = ap (list_all is_kept_change) (sym (no_more ids)) ∙ kept_dropped ids [] refl;
  counted = λ some. counted_put rs work counters_id c d batch at.sorted at.one once (first_change counters_id _ _) keeps refl;
  nothing = some_edit (edits.Unlock makings) [] batch;
  few = λ forks. absurd (true≢false (sym forks));
  spared = λ n more one_append. absurd (no_append n more one_append);
  turned = λ left. ap (λ (q : Parts). q.turns) parts;
}
  where
    p : Parts
    p = parts_of rs

    d : Counters
    d = moved c m work

    stays : Lock → Bool
    stays = stays_locked makings

    batch : List Change
    batch = unlock_batch counters_id d ids

    after : Durable → Durable
    after s = drafted_by work m (edits.Unlock makings ∷ []) s

    no_append : (n : ℕ) (more : List NewEntry) → edits.Unlock makings ∷ [] ≡ edits.Append n more ∷ [] → ⊥
    no_append n more e = cc

    no_more : (xs : List ℕ) → map drop_one xs ++ [] ≡ map drop_one xs
    no_more [] = refl
    no_more (x ∷ xs) = ap (λ ys. drop_one x ∷ ys) (no_more xs)

    rules_then : keep_rules (relocked p d (filter stays p.locks)) ≡ true
    rules_then = keep-unlocked p c d stays rules (may_count p m work 0 c rules can_work at.one (none work))
      where
        none : (k : ℕ) → 0 ≤ k
        none k = omega arith

    parts : parts_of (applied batch rs) ≡ relocked p d (filter stays p.locks)
    parts = parts-unlock rs counters_id id c d stays ids at are

    keeps : keep_rules (parts_of (applied batch rs)) ≡ true
    keeps = ap keep_rules parts ∙ rules_then

    ids_are : (xs : List ℕ) → map (λ (x : Change). x.id) (map drop_one xs) ≡ xs
    ids_are [] = refl
    ids_are (x ∷ xs) = ap (λ ys. x ∷ ys) (ids_are xs)

    once : AreChanges batch
    once = ap (λ xs. ids_differ (counters_id ∷ xs)) (ids_are ids) ∙ one_before counters_id ids (are counters_id (records.Counters c) at.counters) apart

    rows_away : LeavesRows rs batch
    rows_away k q found = (row_apart rs counters_id k (records.Counters c) q at.counters refl found, away_dropped k ids (are k (records.Row q) found))
