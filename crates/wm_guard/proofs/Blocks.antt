-- The locks on a table are those on each of its keys, key by key.
use Rattle.std.proofs.Common.{◌≡◌, ℕ, ◌==◌, Bool, true, false, cond, not, ◌||◌, List, [], ◌∷◌, ◌++◌, refl, sym, ap, subst, ◌∙◌}
use Rattle.std.proofs.lemmas.Bool.{and_from, and_parts, not-true, true≢false}
use Rattle.std.proofs.lemmas.List.Folds.{list_all-append}
use Rattle.std.proofs.lemmas.Map.Keys.{sorted_head, sorted_tail}
use Rattle.std.specs.Cmp.{Equal-is}
use Rattle.std.specs.List.{AllByRecursion, filter, flat_map, list_all, list_any}
use Rattle.std.specs.List.Sorted.{IsStrictlySortedBy}
use Rattle.std.specs.Ordering.{is_eq, ordering_reverse}
use Rattle.std.specs.declared.cmp.Ordering.{Ordering}
use Rattle.std.specs.declared.cmp.Ordering.TheVariants.{Less, Equal, Greater}
use Rattle.wm_base.specs.Key.{key_order}
use Rattle.wm_base.specs.Orders.{key_order-equal, key_order_total}
use Rattle.wm_base.specs.declared.value.Value.{Value}
use Rattle.wm_ordering.specs.Sorting.{placed, sorted}
use Rattle.wm_spec.specs.declared.record.lock.Lock.{Lock}
use Rattle.wm_state.proofs.Tests.{all_if}
use Rattle.wm_guard.proofs.Alike.{all_kept}
use Rattle.wm_guard.specs.Barring.{comes_before, is_of, is_on, locks_at, locks_in, stands_before}

-- ---- a lock among others that are sorted

all_placed : {A : Type 0} (P : A → Bool) (lt : A → A → Bool) (x : A) (ys : List A) → P x ≡ true → list_all P ys ≡ true → list_all P (placed lt x ys) ≡ true
all_placed P lt x [] is all = and_from (P x) true is refl
all_placed {A} P lt x (y ∷ ys) is all = by_test (lt y x) (and_parts (P y) (list_all P ys) all) (all_placed P lt x ys is)
  where
    by_test : (b : Bool) → (P y ≡ true) × (list_all P ys ≡ true) → (list_all P ys ≡ true → list_all P (placed lt x ys) ≡ true) → list_all P (cond b (y ∷ placed lt x ys) (x ∷ y ∷ ys)) ≡ true
    by_test true h rest = and_from (P y) (list_all P (placed lt x ys)) h.0 (rest h.1)
    by_test false h rest = and_from (P x) (list_all P (y ∷ ys)) is all

all_sorted : {A : Type 0} (P : A → Bool) (lt : A → A → Bool) (xs : List A) → list_all P xs ≡ true → list_all P (sorted lt xs) ≡ true
all_sorted P lt [] all = refl
all_sorted P lt (x ∷ xs) all = let h = and_parts (P x) (list_all P xs) all in all_placed P lt x (sorted lt xs) h.0 (all_sorted P lt xs h.1)

-- behind those that are before it
placed-behind : {A : Type 0} (lt : A → A → Bool) (x : A) (ys zs : List A) → list_all (λ y. lt y x) ys ≡ true → placed lt x (ys ++ zs) ≡ ys ++ placed lt x zs
placed-behind lt x [] zs all = refl
placed-behind lt x (y ∷ ys) zs all = let h = and_parts (lt y x) (list_all (λ z. lt z x) ys) all in rw h.0 (ap (λ us. y ∷ us) (placed-behind lt x ys zs h.1))

-- ahead of those that are not
placed-ahead : {A : Type 0} (lt : A → A → Bool) (x : A) (zs : List A) → list_all (λ z. not (lt z x)) zs ≡ true → placed lt x zs ≡ x ∷ zs
placed-ahead lt x [] none = refl
placed-ahead lt x (z ∷ zs) none = rw (not-true (lt z x) (and_parts (not (lt z x)) (list_all (λ y. not (lt y x)) zs) none).0) refl

-- ---- locks on one key and on others

turned : (k l : List Value) → key_order k l ≡ Less → key_order l k ≡ Greater
turned k l less = key_order_total.antisymm l k ∙ ap ordering_reverse less

-- a lock is on a key
abbrev has_key : List Value → Lock → Bool
has_key k x = is_eq (key_order k x.cells.key)

-- and on one of some
abbrev pub is_keyed : List (List Value) → Lock → Bool
is_keyed keys x = list_any (λ k. is_eq (key_order x.cells.key k)) keys

its_key : (k : List Value) (x : Lock) → has_key k x ≡ true → k ≡ x.cells.key
its_key k x is = key_order-equal k x.cells.key ((Equal-is (key_order k x.cells.key)).0 is)

-- a lock on a lesser key stands before it
before : (x : Lock) (k : List Value) → key_order k x.cells.key ≡ Less → (y : Lock) → has_key k y ≡ true → stands_before y x ≡ true
before x k less y is =
    let order : key_order y.cells.key x.cells.key ≡ Less = subst (λ l. key_order l x.cells.key ≡ Less) (its_key k y is) less in
    rw order refl

-- one on a greater key does not
after : (x : Lock) (k : List Value) → key_order x.cells.key k ≡ Less → (y : Lock) → has_key k y ≡ true → not (stands_before y x) ≡ true
after x k less y is =
    let order : key_order y.cells.key x.cells.key ≡ Greater = turned x.cells.key y.cells.key (subst (λ l. key_order x.cells.key l ≡ Less) (its_key k y is) less) in
    rw order refl

-- one on its own key stands as on the key
beside : (x : Lock) (k : List Value) → key_order k x.cells.key ≡ Equal → (y : Lock) → has_key k y ≡ true → stands_before y x ≡ comes_before y x
beside x k same y is =
    let order : key_order y.cells.key x.cells.key ≡ Equal = subst (λ l. key_order l x.cells.key ≡ Equal) (its_key k y is) same in
    rw order refl

-- ---- a lock in its block

module _ (x : Lock) where
  -- it is on none of the keys that are greater
  not_keyed : (ks : List (List Value)) → AllByRecursion (λ l. key_order x.cells.key l ≡ Less) ks → is_keyed ks x ≡ false
  not_keyed [] all = refl
  not_keyed (k ∷ ks) all = rw all.0 (not_keyed ks all.1)

  behind_all : (k : List Value) (ks : List (List Value)) → key_order x.cells.key k ≡ Less → AllByRecursion (λ l. key_order k l ≡ Less) ks → AllByRecursion (λ l. key_order x.cells.key l ≡ Less) ks
  behind_all k [] less all = tt
  behind_all k (l ∷ ks) less all = (key_order_total.trans x.cells.key k l less all.0, behind_all k ks less all.1)

  placed-own : (k : List Value) → key_order k x.cells.key ≡ Equal → (ys zs : List Lock) → list_all (has_key k) ys ≡ true → list_all (λ z. not (stands_before z x)) zs ≡ true
      → placed stands_before x (ys ++ zs) ≡ placed comes_before x ys ++ zs
  placed-own k same [] zs all none = placed-ahead stands_before x zs none
  placed-own k same (y ∷ ys) zs all none =
      let h = and_parts (has_key k y) (list_all (has_key k) ys) all in
      ap (λ b. cond b (y ∷ placed stands_before x (ys ++ zs)) (x ∷ y ∷ (ys ++ zs))) (beside x k same y h.0)
      ∙ by_test (comes_before y x) (placed-own k same ys zs h.1 none)
    where
      by_test : (b : Bool) → placed stands_before x (ys ++ zs) ≡ placed comes_before x ys ++ zs
          → cond b (y ∷ placed stands_before x (ys ++ zs)) (x ∷ y ∷ (ys ++ zs)) ≡ cond b (y ∷ placed comes_before x ys) (x ∷ y ∷ ys) ++ zs
      by_test true rest = ap (λ us. y ∷ us) rest
      by_test false rest = refl

  module _ (block : List Value → List Lock) (keyed : (k : List Value) → list_all (has_key k) (block k) ≡ true) where
    -- the blocks with one lock more
    abbrev more : List Value → List Lock
    more k = cond (has_key k x) (placed comes_before x (block k)) (block k)

    more_apart : (k : List Value) → has_key k x ≡ false → more k ≡ block k
    more_apart k is = rw is refl

    more_own : (k : List Value) → has_key k x ≡ true → more k ≡ placed comes_before x (block k)
    more_own k is = rw is refl

    more_behind : (ks : List (List Value)) → AllByRecursion (λ l. key_order x.cells.key l ≡ Less) ks → flat_map more ks ≡ flat_map block ks
    more_behind [] all = refl
    more_behind (k ∷ ks) all =
        ap (λ us. us ++ flat_map more ks) (more_apart k (ap is_eq (turned x.cells.key k all.0))) ∙ ap (λ us. block k ++ us) (more_behind ks all.1)

    none_behind : (ks : List (List Value)) → AllByRecursion (λ l. key_order x.cells.key l ≡ Less) ks → list_all (λ z. not (stands_before z x)) (flat_map block ks) ≡ true
    none_behind [] all = refl
    none_behind (k ∷ ks) all =
        list_all-append (λ z. not (stands_before z x)) (block k) (flat_map block ks)
        ∙ and_from (list_all (λ z. not (stands_before z x)) (block k)) (list_all (λ z. not (stands_before z x)) (flat_map block ks))
        (all_if (has_key k) (λ z. not (stands_before z x)) (after x k all.0) (block k) (keyed k)) (none_behind ks all.1)

    blocks_more : (ks : List (List Value)) → IsStrictlySortedBy key_order ks → is_keyed ks x ≡ true → placed stands_before x (flat_map block ks) ≡ flat_map more ks
    blocks_more [] up is = absurd (true≢false (sym is))
    blocks_more (k ∷ ks) up is = by_order (key_order k x.cells.key) refl (blocks_more ks (sorted_tail key_order k ks up))
      where
        rest : is_eq (key_order x.cells.key k) ≡ false → is_keyed ks x ≡ true
        rest apart = sym (ap (λ b. b || is_keyed ks x) apart) ∙ is

        by_order : (o : Ordering) → key_order k x.cells.key ≡ o → (is_keyed ks x ≡ true → placed stands_before x (flat_map block ks) ≡ flat_map more ks) → placed stands_before x (block k ++ flat_map block ks) ≡ more k ++ flat_map more ks
        by_order Less less others =
            placed-behind stands_before x (block k) (flat_map block ks) (all_if (has_key k) (λ y. stands_before y x) (before x k less) (block k) (keyed k))
            ∙ ap (λ us. block k ++ us) (others (rest (ap is_eq (turned k x.cells.key less))))
            ∙ ap (λ us. us ++ flat_map more ks) (sym (more_apart k (ap is_eq less)))
        by_order Equal same others =
            let all : AllByRecursion (λ l. key_order x.cells.key l ≡ Less) ks = subst (λ q. AllByRecursion (λ l. key_order q l ≡ Less) ks) (key_order-equal k x.cells.key same) (sorted_head key_order k ks up) in
            placed-own k same (block k) (flat_map block ks) (keyed k) (none_behind ks all)
            ∙ ap (λ us. us ++ flat_map block ks) (sym (more_own k (ap is_eq same)))
            ∙ ap (λ us. more k ++ us) (sym (more_behind ks all))
        by_order Greater more_than others =
            let less : key_order x.cells.key k ≡ Less = key_order_total.antisymm x.cells.key k ∙ ap ordering_reverse more_than in
            absurd (true≢false (sym (rest (ap is_eq less)) ∙ not_keyed ks (behind_all k ks less (sorted_head key_order k ks up))))

-- ---- the locks on a table

on_key : (table : ℕ) (xs : List Lock) (k : List Value) → list_all (has_key k) (locks_at table k xs) ≡ true
on_key table xs k =
    all_sorted (has_key k) comes_before (filter (is_on table k) xs)
    (all_if (is_on table k) (has_key k) (λ x is. (and_parts (x.cells.table == table) (has_key k x) is).1) (filter (is_on table k) xs) (all_kept (is_on table k) xs))

at_more : (table : ℕ) (x : Lock) (xs : List Lock) → is_of table x ≡ true → (k : List Value)
    → locks_at table k (x ∷ xs) ≡ cond (has_key k x) (placed comes_before x (locks_at table k xs)) (locks_at table k xs)
at_more table x xs is k = rw is (by_test (has_key k x))
  where
    by_test : (b : Bool) → sorted comes_before (cond b (x ∷ filter (is_on table k) xs) (filter (is_on table k) xs)) ≡ cond b (placed comes_before x (locks_at table k xs)) (locks_at table k xs)
    by_test true = refl
    by_test false = refl

at_same : (table : ℕ) (x : Lock) (xs : List Lock) → is_of table x ≡ false → (k : List Value) → locks_at table k (x ∷ xs) ≡ locks_at table k xs
at_same table x xs is k = rw is refl

-- where each is on one of some keys that rise
pub locks_in-blocks : (table : ℕ) (keys : List (List Value)) (xs : List Lock) → IsStrictlySortedBy key_order keys → list_all (λ (x : Lock). not (is_of table x) || is_keyed keys x) xs ≡ true
    → locks_in table xs ≡ flat_map (λ k. locks_at table k xs) keys
locks_in-blocks table keys [] up each = none keys
  where
    none : (ks : List (List Value)) → [] ≡ flat_map (λ k. locks_at table k []) ks
    none [] = refl
    none (k ∷ ks) = none ks
locks_in-blocks table keys (x ∷ xs) up each =
    let h = and_parts (not (is_of table x) || is_keyed keys x) (list_all (λ (y : Lock). not (is_of table y) || is_keyed keys y) xs) each in
    by_table (is_of table x) refl h.0 (locks_in-blocks table keys xs up h.1)
  where
    by_table : (b : Bool) → is_of table x ≡ b → (not b || is_keyed keys x) ≡ true → locks_in table xs ≡ flat_map (λ k. locks_at table k xs) keys
        → sorted stands_before (cond b (x ∷ filter (is_of table) xs) (filter (is_of table) xs)) ≡ flat_map (λ k. locks_at table k (x ∷ xs)) keys
    by_table true is own rest =
        ap (placed stands_before x) rest
        ∙ blocks_more x (λ k. locks_at table k xs) (on_key table xs) keys up own
        ∙ sym (ap (λ f. flat_map f keys) (λ i k. at_more table x xs is k i))
    by_table false is own rest = rest ∙ sym (ap (λ f. flat_map f keys) (λ i k. at_same table x xs is k i))
