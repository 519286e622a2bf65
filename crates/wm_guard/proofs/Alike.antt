-- Locks in order do not turn on how they were listed.
use Rattle.std.proofs.Common.{◌≡◌, ℕ, ◌==◌, Bool, true, false, not, ◌||◌, List, [], ◌∷◌, refl, sym, ap, ◌∙◌}
use Rattle.std.proofs.lemmas.Bool.{and_parts, not-true, true≢false}
use Rattle.std.specs.Cmp.{IsStrictWeakOrder}
use Rattle.std.specs.List.{filter, list_all, list_any}
use Rattle.std.specs.List.Sorted.{ties}
use Rattle.wm_base.specs.declared.value.Value.{Value}
use Rattle.wm_graph.specs.Parts.{Parts, space_of, table_of}
use Rattle.wm_graph.specs.Rules.{are_locks, differ, is_lock}
use Rattle.wm_ordering.proofs.SortLemmas.{filter_in_order, one_order, rises_sorted}
use Rattle.wm_ordering.specs.Sorting.{sorted}
use Rattle.wm_spec.specs.declared.record.lock.Lock.{Lock}
use Rattle.wm_state.proofs.Locking.{locks-filter}
use Rattle.wm_state.proofs.Tests.{differ_filter}
use Rattle.wm_state.specs.Standing.{locks_by_making}
use Rattle.wm_guard.proofs.Order.{comes_one, comes_order, stands_one, stands_order}
use Rattle.wm_guard.specs.Barring.{comes_before, is_of, is_on, locks_at, locks_in, stands_before}

abbrev same_making : Lock → Lock → Bool
same_making x y = x.making == y.making

-- ---- an order in which those of one place were made as one

pub all_kept : (P : Lock → Bool) (xs : List Lock) → list_all P (filter P xs) ≡ true
all_kept P [] = refl
all_kept P (x ∷ xs) = by_test (P x) refl (all_kept P xs)
  where
    by_test : (b : Bool) → P x ≡ b → list_all P (filter P xs) ≡ true → list_all P (filter P (x ∷ xs)) ≡ true
    by_test true is rest = rw (is, is) rest
    by_test false out rest = rw out rest

module _ (lt : Lock → Lock → Bool) (o : IsStrictWeakOrder lt) (one : (x y : Lock) → lt x y ≡ false → lt y x ≡ false → (x.making == y.making) ≡ true) where
  -- what ties with one lock stands in one place
  tied : (w x y : Lock) → ties lt w x ≡ true → ties lt w y ≡ true → lt y x ≡ false
  tied w x y ex ey =
      let px = and_parts (not (lt w x)) (not (lt x w)) ex in
      let py = and_parts (not (lt w y)) (not (lt y w)) ey in
      o.chain y w x (not-true (lt y w) py.1) (not-true (lt w x) px.0)

  -- so there is one of it, which is listed in one way
  few : (w : Lock) (xs : List Lock) → list_all (ties lt w) xs ≡ true → differ same_making xs ≡ true → locks_by_making xs ≡ xs
  few w [] all apart = refl
  few w (x ∷ []) all apart = refl
  few w (x ∷ y ∷ ys) all apart =
      let a = and_parts (ties lt w x) (list_all (ties lt w) (y ∷ ys)) all in
      let b = and_parts (ties lt w y) (list_all (ties lt w) ys) a.1 in
      let same : (x.making == y.making) ≡ true = one x y (tied w y x b.0 a.0) (tied w x y a.0 b.0) in
      absurd (none (x.making == y.making) (list_any (same_making x) ys) same (and_parts (not (list_any (same_making x) (y ∷ ys))) (differ same_making (y ∷ ys)) apart).0)
    where
      none : (b c : Bool) → b ≡ true → not (b || c) ≡ true → ⊥
      none true c same other = true≢false (sym other)
      none false c same other = true≢false (sym same)

  tied_listed : (w : Lock) (xs : List Lock) → differ same_making xs ≡ true → filter (ties lt w) (locks_by_making xs) ≡ filter (ties lt w) xs
  tied_listed w xs apart = sym (locks-filter (ties lt w) xs) ∙ few w (filter (ties lt w) xs) (all_kept (ties lt w) xs) (differ_filter same_making (ties lt w) xs apart)

  tied_sorted : (w : Lock) (xs : List Lock) → filter (ties lt w) (sorted lt xs) ≡ filter (ties lt w) xs
  tied_sorted w xs = filter_in_order lt (ties lt w) (tied w) xs

  sorted-listed : (xs : List Lock) → differ same_making xs ≡ true → sorted lt (locks_by_making xs) ≡ sorted lt xs
  sorted-listed xs apart =
      one_order lt o (sorted lt (locks_by_making xs)) (sorted lt xs) (rises_sorted lt o (locks_by_making xs)) (rises_sorted lt o xs)
      (λ w. tied_sorted w (locks_by_making xs) ∙ tied_listed w xs apart ∙ sym (tied_sorted w xs))

  kept-listed : (P : Lock → Bool) (xs : List Lock) → differ same_making xs ≡ true → sorted lt (filter P (locks_by_making xs)) ≡ sorted lt (filter P xs)
  kept-listed P xs apart = ap (sorted lt) (sym (locks-filter P xs)) ∙ sorted-listed (filter P xs) (differ_filter same_making P xs apart)

-- ---- the locks on a key, and those on a table

pub locks_at-listed : (table : ℕ) (key : List Value) (xs : List Lock) → differ (λ (x y : Lock). x.making == y.making) xs ≡ true → locks_at table key (locks_by_making xs) ≡ locks_at table key xs
locks_at-listed table key xs apart = kept-listed comes_before comes_order comes_one (is_on table key) xs apart

pub locks_in-listed : (table : ℕ) (xs : List Lock) → differ (λ (x y : Lock). x.making == y.making) xs ≡ true → locks_in table (locks_by_making xs) ≡ locks_in table xs
locks_in-listed table xs apart = kept-listed stands_before stands_order stands_one (is_of table) xs apart

-- what the rules on locks say of their makings
pub makings_differ : (p : Parts) (work : ℕ) → are_locks p work ≡ true → differ (λ (x y : Lock). x.making == y.making) p.locks ≡ true
makings_differ p work are = (and_parts (differ same_making p.locks) (list_all (is_lock (table_of p.tables) (space_of p.spaces) work) p.locks) are).0
