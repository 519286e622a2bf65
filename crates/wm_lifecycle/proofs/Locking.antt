-- What is put where locks are set.
use Rattle.std.proofs.Common.{◌≡◌, ℕ, suc, ◌+◌, ◌-◌, ◌≤◌, ◌<◌, ◌^◌, ◌==◌, nat_le, nat_lt, true, false, ◌&&◌, List, [], ◌∷◌, ◌++◌, map, length, Some, None, refl, sym, ap, subst, ◌∙◌, arith}
use Rattle.std.proofs.lemmas.Bool.Decides.{nat_tests}
use Rattle.std.proofs.lemmas.Bool.{and_parts}
use Rattle.std.specs.List.{list_all}
use Rattle.std.specs.Str.{bytes_eq}
use Rattle.wm_changes.proofs.Putting.{one_behind}
use Rattle.wm_graph.specs.Parts.{Parts, parts_of, space_of}
use Rattle.wm_graph.specs.Rules.{differ, is_placed, is_short, is_space, keep_rules}
use Rattle.wm_locked.proofs.DraftedLocked.{drafts_lock}
use Rattle.wm_locked.proofs.LockedRules.{after-room}
use Rattle.wm_locked.specs.Locking.{lock_batch}
use Rattle.wm_spec.specs.Records.{record_at}
use Rattle.wm_spec.specs.declared.record.Record.{Record}
use Rattle.wm_spec.specs.declared.record.Record.TheVariants as records
use Rattle.wm_spec.specs.declared.record.batch.Change.{Change}
use Rattle.wm_spec.specs.declared.record.counters.Counters.{Counters}
use Rattle.wm_spec.specs.declared.record.lock.Lock.{Lock}
use Rattle.wm_spec.specs.declared.record.lock.LockMode.{LockMode}
use Rattle.wm_spec.specs.declared.record.space.Space.{Space}
use Rattle.wm_spec.specs.declared.record.stored.Stored.{Stored}
use Rattle.wm_state.proofs.Apart.{found-passes, ruled}
use Rattle.wm_state.proofs.Growing.{same_counters}
use Rattle.wm_state.proofs.Named.{space_number}
use Rattle.wm_state.specs.Batches.{put}
use Rattle.wm_state.specs.ById.{Ascend}
use Rattle.wm_state.specs.Drafts.{CanLock, CanWork, DraftsBy}
use Rattle.wm_state.specs.Editing.{counter_limit, lock_after, lock_made, locks_made}
use Rattle.wm_state.specs.Points.{moved}
use Rattle.wm_state.specs.Writes.{put_all}
use Rattle.wm_state.specs.declared.edit.Edit.TheVariants as edits
use Rattle.wm_state.specs.declared.edit.NewLock.{NewLock}
use Rattle.wm_written.proofs.Ids.{under_next}

-- ---- the records

-- one more is made behind the others
made-push : (n place : ℕ) (mode : LockMode) (user : List ℕ) (making : ℕ) (xs : List NewLock) (x : NewLock) → locks_made n place mode user making (xs ++ x ∷ []) ≡ locks_made n place mode user making xs ++ lock_made n place mode user (making + length xs) x ∷ []
made-push n place mode user making [] x = ap (λ k. lock_made n place mode user k x ∷ []) (none making)
  where
    none : (a : ℕ) → a ≡ a + 0
    none a = omega arith
made-push n place mode user making (y ∷ ys) x =
    ap (λ zs. lock_made n place mode user making y ∷ zs)
    (made-push n place mode user (making + 1) ys x ∙ ap (λ k. locks_made n place mode user (making + 1) ys ++ lock_made n place mode user k x ∷ []) (step making (length ys)))
  where
    step : (a b : ℕ) → a + 1 + b ≡ a + suc b
    step a b = omega arith

pub lock_more : (n place : ℕ) (mode : LockMode) (user : List ℕ) (making next : ℕ) (xs : List NewLock) (x : NewLock) (one : Lock) (before after : List Record) → before ≡ map records.Lock (locks_made n place mode user making xs) → next ≡ making + length xs
    → one ≡ lock_made n place mode user next x → after ≡ before ++ records.Lock one ∷ [] → after ≡ map records.Lock (locks_made n place mode user making (xs ++ x ∷ []))
lock_more n place mode user making next xs x one before after is at made pushed =
    one_behind records.Lock [] (locks_made n place mode user making xs) one before after is pushed
    ∙ ap (λ (y : Lock). map records.Lock (locks_made n place mode user making xs ++ y ∷ [])) (made ∙ ap (λ k. lock_made n place mode user k x) at)
    ∙ ap (map records.Lock) (sym (made-push n place mode user making xs x))

-- there is one for each of the cells
pub length_made : (n place : ℕ) (mode : LockMode) (user : List ℕ) (making : ℕ) (xs : List NewLock) → length (map records.Lock (locks_made n place mode user making xs)) ≡ length xs
length_made n place mode user making [] = refl
length_made n place mode user making (x ∷ xs) = ap suc (length_made n place mode user (making + 1) xs)

-- ---- numbers

-- some place comes next
some_place : (p : Parts) (n : ℕ) (a : Space) → keep_rules p ≡ true → space_of p.spaces n ≡ Some a → nat_le 1 a.next_place ≡ true
some_place p n a rules there =
    let numbers = and_parts (differ (λ (s t : Space). s.number == t.number) p.spaces) _ (and_parts _ _ (ruled p rules).spaces).1 in
    let each = and_parts (differ (λ (s t : Space). bytes_eq s.name t.name) p.spaces) (list_all (is_space (space_of p.spaces)) p.spaces) numbers.1 in
    let own = found-passes (λ (x : Space). x.number == n) (is_space (space_of p.spaces)) p.spaces a there each.1 in
    (and_parts (nat_le 1 a.next_place) _ (and_parts (is_placed (space_of p.spaces) a && (is_short a.name && is_short a.writer)) _ own.1).1).0

pub placed : (p : Parts) (n : ℕ) (a : Space) → keep_rules p ≡ true → space_of p.spaces n ≡ Some a → 1 ≤ a.next_place
placed p n a rules there = least a.next_place (some_place p n a rules there)
  where
    least : (k : ℕ) → nat_le 1 k ≡ true → 1 ≤ k
    least k some = grind (arith, some)

-- their makings can be told
pub makings_fit : (p : Parts) (m work count making : ℕ) → keep_rules p ≡ true → CanWork p m work → count ≤ work → making ≡ lock_after p.locks → making + count < 2 ^ 64
makings_fit p m work count making rules can room is =
    let r = ruled p rules in
    less making can.counters.work work count can.room room
    (subst (λ k. k ≤ can.counters.work + 3) (sym is) (subst (λ (c : Counters). lock_after p.locks ≤ c.work + 3) (sym (same_counters p r.counters can.counters r.one can.one)) (after-room p r.counters.work r.locks)))
  where
    less : (k a b c : ℕ) → nat_lt counter_limit (a + b) ≡ false → c ≤ b → k ≤ a + 3 → k + c < 2 ^ 64
    less k a b c e le under = grind (arith, nat_tests, e, le, under)

-- ---- the draft

pub drafts_locks : (rs : List Stored) (m work n : ℕ) (mode : LockMode) (user : List ℕ) (cells : List NewLock) (making place : ℕ) (c counted : Counters) (a : Space) (counters_id id : ℕ) (news : List Record) (none one changes : List Change) (first : Change)
    → keep_rules (parts_of rs) ≡ true → CanWork (parts_of rs) m work → length cells ≤ work → CanLock (parts_of rs) n user cells → Ascend rs → (parts_of rs).counters ≡ c ∷ [] → record_at rs counters_id ≡ Some (records.Counters c)
    → space_of (parts_of rs).spaces n ≡ Some a → ((i : ℕ) → id ≤ i → record_at rs i ≡ None) → place ≡ a.next_place - 1 → making ≡ lock_after (parts_of rs).locks → counted ≡ moved c m work → news ≡ map records.Lock (locks_made n place mode user making cells)
    → none ≡ [] → first ≡ put counters_id (records.Counters counted) → one ≡ none ++ first ∷ [] → changes ≡ one ++ put_all id news → DraftsBy work rs m (edits.Lock n mode user cells ∷ []) changes
drafts_locks rs m work n mode user cells making place c counted a counters_id id news none one changes first rules can_work room can sorted has_one counters found above last next count made empty put_first pushed is =
    subst (λ (cs : List Change). DraftsBy work rs m (edits.Lock n mode user cells ∷ []) cs) (sym batch)
    (subst So number
    (drafts_lock rs m work a mode user cells place c counters_id id rules can_work room (subst (λ k. CanLock (parts_of rs) k user cells) (sym number) can) (subst (λ k. space_of (parts_of rs).spaces k ≡ Some a) (sym number) found)
    (behind a.next_place place (placed (parts_of rs) n a rules found) last) (record { sorted = sorted; counters = counters; one = has_one; under = under_next id rs above })))
  where
    number : a.number ≡ n
    number = space_number (parts_of rs) n a found

    So : ℕ → Type 0
    So k = DraftsBy work rs m (edits.Lock k mode user cells ∷ []) (lock_batch counters_id (moved c m work) id (locks_made k place mode user (lock_after (parts_of rs).locks) cells))

    behind : (k j : ℕ) → 1 ≤ k → j ≡ k - 1 → k ≡ j + 1
    behind k j some e = omega (arith, some, e)

    batch : changes ≡ lock_batch counters_id (moved c m work) id (locks_made n place mode user (lock_after (parts_of rs).locks) cells)
    batch = rw (is, pushed, empty, put_first, count, made, next) refl
