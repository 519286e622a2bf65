-- The making of the lock that comes next.
use Rattle.std.proofs.Common.{◌≡◌, ℕ, ◌<◌, ◌≤◌, ◌+◌, ◌^◌, ◌==◌, nat_lt, nat_le, max, Bool, true, false, ◌&&◌, ◌||◌, List, [], ◌∷◌, Option, Some, None, refl, sym, ap, ◌∙◌, subst, arith}
use Rattle.std.proofs.lemmas.Bool.{and_parts, true≢false}
use Rattle.std.specs.BTreeMap.{IsOrdered}
use Rattle.std.specs.List.{list_all, list_any}
use Rattle.std.specs.Ordering.{nat_cmp}
use Rattle.wm_chunks.specs.Numbers.{Numbers}
use Rattle.wm_graph.specs.Parts.{Parts, parts_of, as_lock, space_of, table_of}
use Rattle.wm_graph.specs.Rules.{keep_rules, are_cells, are_locks, differ, is_given, is_lock, is_short}
use Rattle.wm_ids.proofs.Lasts.{LastOf, has_ids, last-same, last_told}
use Rattle.wm_ids.specs.Ids.{last_used}
use Rattle.wm_index.proofs.After.{all_before}
use Rattle.wm_index.proofs.Finding.{Tests}
use Rattle.wm_index.proofs.Firsts.{any_sought}
use Rattle.wm_index.specs.Indexed.{IsIndexed, listed}
use Rattle.wm_index.specs.Kinds.{after}
use Rattle.wm_index.specs.Sought.{LockAt, is_sought}
use Rattle.wm_index.specs.declared.index.Index.{Index}
use Rattle.wm_spec.specs.declared.record.Record.{Record}
use Rattle.wm_spec.specs.declared.record.Record.TheVariants as records
use Rattle.wm_spec.specs.declared.record.lock.Lock.{Lock}
use Rattle.wm_spec.specs.declared.record.stored.Stored.{Stored}
use Rattle.wm_state.specs.Editing.{lock_after}
use Rattle.wm_state.proofs.Apart.{ruled}
use Rattle.wm_image.proofs.Saved.{few_worked}

-- the making of a lock
abbrev pub is_locked_as : Parts → ℕ → Bool
is_locked_as p q = list_any (λ (y : Lock). y.making == q) p.locks

lock_test : (n : ℕ) → Tests as_lock (λ (y : Lock). y.making == n) (is_sought (LockAt n))
lock_test n (records.Lock y) = refl
lock_test n _ = refl

-- the last key of the index is the last making
last_locked : (kept : Numbers Record) (x : Index) → IsIndexed kept x → (ss : List Stored) → listed kept.entries ≡ ss → (o : Option ℕ) → IsOrdered nat_cmp x.lock_makings → o ≡ last_used x.lock_makings.entries
    → LastOf (is_locked_as (parts_of ss)) o
unfolding parts_of
last_locked kept x is ss view o sorted last =
    subst (λ (l : List Stored). LastOf (is_locked_as (parts_of l)) o) view
    (last-same (has_ids x.lock_makings.entries) (is_locked_as (parts_of (listed kept.entries)))
    (λ q. any_sought as_lock (λ (y : Lock). y.making == q) (LockAt q) (lock_test q) kept x is) o
    (last_told x.lock_makings o sorted last))

-- ---- bounds

-- no making is at or above it
below : (xs : List Lock) (n : ℕ) → 1 ≤ n → list_all (λ (y : Lock). nat_lt y.making n) xs ≡ true → lock_after xs ≤ n
below [] n some all = some
below (x ∷ xs) n some all = let h = and_parts (nat_lt x.making n) (list_all (λ (y : Lock). nat_lt y.making n) xs) all in both x.making (lock_after xs) n h.0 (below xs n some h.1)
  where
    both : (a b n : ℕ) → nat_lt a n ≡ true → b ≤ n → max (a + 1) b ≤ n
    both a b n lt le = grind (arith, lt, le)

some_making : (xs : List Lock) → 1 ≤ lock_after xs
some_making [] = omega arith
some_making (x ∷ xs) = right (x.making + 1) (lock_after xs) (some_making xs)
  where
    right : (a b : ℕ) → 1 ≤ b → 1 ≤ max a b
    right a b le = grind (arith, le)

-- it is above each making
above : (xs : List Lock) (k : ℕ) → list_any (λ (y : Lock). y.making == k) xs ≡ true → k + 1 ≤ lock_after xs
above [] k some = absurd (true≢false (sym some))
above (x ∷ xs) k some = by_making (x.making == k) refl some (above xs k)
  where
    here : (a b k : ℕ) → (a == k) ≡ true → k + 1 ≤ max (a + 1) b
    here a b k e = grind (arith, e)

    right : (a b k : ℕ) → k + 1 ≤ b → k + 1 ≤ max (a + 1) b
    right a b k le = grind (arith, le)

    by_making : (b : Bool) → (x.making == k) ≡ b → (b || list_any (λ (y : Lock). y.making == k) xs) ≡ true → (list_any (λ (y : Lock). y.making == k) xs ≡ true → k + 1 ≤ lock_after xs) → k + 1 ≤ max (x.making + 1) (lock_after xs)
    by_making true e some rest = here x.making (lock_after xs) k e
    by_making false e some rest = right x.making (lock_after xs) k (rest some)

-- one more than the last making is the next
lock_after_is : (xs : List Lock) (o : Option ℕ) → LastOf (λ q. list_any (λ (y : Lock). y.making == q) xs) o → after 1 o ≡ lock_after xs
lock_after_is xs None last = same (lock_after xs) (below xs 1 (omega arith) (all_before (λ (y : Lock). y.making) xs 1 None last)) (some_making xs)
  where
    same : (n : ℕ) → n ≤ 1 → 1 ≤ n → 1 ≡ n
    same n le ge = omega (arith, le, ge)
lock_after_is xs (Some k) last = same (lock_after xs) (below xs (k + 1) (one k) (all_before (λ (y : Lock). y.making) xs 1 (Some k) last)) (above xs k last.0)
  where
    one : (k : ℕ) → 1 ≤ k + 1
    one k = omega arith

    same : (n : ℕ) → n ≤ k + 1 → k + 1 ≤ n → k + 1 ≡ n
    same n le ge = omega (arith, le, ge)

-- so the next making is one more than the last key of the index
pub making_is : (kept : Numbers Record) (x : Index) → IsIndexed kept x → (ss : List Stored) → listed kept.entries ≡ ss → (o : Option ℕ) → IsOrdered nat_cmp x.lock_makings → o ≡ last_used x.lock_makings.entries → after 1 o ≡ lock_after (parts_of ss).locks
making_is kept x is ss view o sorted last = lock_after_is (parts_of ss).locks o (last_locked kept x is ss view o sorted last)

-- ---- it can be told

few_makings : (tables : _) (spaces : _) (work : ℕ) (xs : List Lock) → list_all (is_lock tables spaces work) xs ≡ true → lock_after xs ≤ work + 3
few_makings tables spaces work [] all = omega arith
few_makings tables spaces work (x ∷ xs) all =
    let h = and_parts (is_lock tables spaces work x) (list_all (is_lock tables spaces work) xs) all in
    let g = and_parts (is_short x.user && nat_le x.making (work + 2)) (are_cells tables x.cells && is_given spaces x.space x.place) h.0 in
    both x.making (lock_after xs) work (and_parts (is_short x.user) (nat_le x.making (work + 2)) g.0).1 (few_makings tables spaces work xs h.1)
  where
    both : (a b w : ℕ) → nat_le a (w + 2) ≡ true → b ≤ w + 3 → max (a + 1) b ≤ w + 3
    both a b w le also = grind (arith, le, also)

pub lock_fits : (p : Parts) → keep_rules p ≡ true → lock_after p.locks < 2 ^ 64
lock_fits p rules =
    let r = ruled p rules in
    fits (lock_after p.locks) r.counters.work
    (few_makings (table_of p.tables) (space_of p.spaces) r.counters.work p.locks (and_parts (differ (λ (x y : Lock). x.making == y.making) p.locks) (list_all (is_lock (table_of p.tables) (space_of p.spaces) r.counters.work) p.locks) r.locks).1)
    (few_worked r.counters r.counted)
  where
    fits : (n work : ℕ) → n ≤ work + 3 → nat_le work (2 ^ 62) ≡ true → n < 2 ^ 64
    fits n work le f = let few : work ≤ 2 ^ 62 = grind (arith, f) in omega (arith, le, few)
