-- Locks stand in a total order, on a key and in a table; those of one place were made as one.
use Rattle.std.proofs.Common.{◌≡◌, ℕ, ◌==◌, nat_lt, Bool, true, false, cond, ◌&&◌, ◌||◌, List, [], ◌∷◌, map, refl, ap, subst, ◌∙◌}
use Rattle.std.proofs.lemmas.Bool.{eq-eqb}
use Rattle.std.proofs.lemmas.Cmp.{nat_cmp_total, on_total, then_total}
use Rattle.std.proofs.lemmas.List.Sorted.{ranks_by}
use Rattle.std.proofs.lemmas.Map.Lookups.{exact_unsigned}
use Rattle.std.specs.Cmp.{IsStrictWeakOrder, IsTotalOrder}
use Rattle.std.specs.Ordering.{is_eq, is_lt, nat_cmp, ordering_reverse, ordering_then}
use Rattle.std.specs.declared.cmp.Ordering.{Ordering}
use Rattle.std.specs.declared.cmp.Ordering.TheVariants.{Less, Equal, Greater}
use Rattle.wm_base.specs.Key.{key_order}
use Rattle.wm_base.specs.Orders.{both_equal, key_order_total}
use Rattle.wm_ordering.specs.Sorting.{placed, sorted}
use Rattle.wm_spec.specs.declared.record.lock.Lock.{Lock}
use Rattle.wm_guard.specs.Barring.{comes_before, lex, stands_before}
use Rattle.wm_guard.specs.Orders.{key_places}

-- in one table: by key first
abbrev pub table_places : Lock → Lock → Ordering
table_places x y = ordering_then (key_order x.cells.key y.cells.key) (key_places x y)

-- ---- the orders are total

pub key_places_total : IsTotalOrder key_places
key_places_total =
    then_total (on_total (λ (x : Lock). x.cells.from) nat_cmp_total)
    (then_total (on_total (λ (x : Lock). x.space) nat_cmp_total) (on_total (λ (x : Lock). x.making) nat_cmp_total))

pub table_places_total : IsTotalOrder table_places
table_places_total = then_total (on_total (λ (x : Lock). x.cells.key) key_order_total) key_places_total

-- ---- the tests are those of the orders

number_first : (m n : ℕ) (o : Ordering) → is_lt (ordering_then (nat_cmp m n) o) ≡ lex m n (is_lt o)
number_first m n o = by_tests (nat_lt m n) (m == n)
  where
    by_tests : (a b : Bool) → is_lt (ordering_then (cond a Less (cond b Equal Greater)) o) ≡ (a || (b && is_lt o))
    by_tests true b = refl
    by_tests false true = refl
    by_tests false false = refl

number_alone : (m n : ℕ) → is_lt (nat_cmp m n) ≡ nat_lt m n
number_alone m n = by_tests (nat_lt m n) (m == n)
  where
    by_tests : (a b : Bool) → is_lt (cond a Less (cond b Equal Greater)) ≡ a
    by_tests true b = refl
    by_tests false true = refl
    by_tests false false = refl

pub comes_first : (x y : Lock) → is_lt (key_places x y) ≡ comes_before x y
comes_first x y =
    number_first x.cells.from y.cells.from (ordering_then (nat_cmp x.space y.space) (nat_cmp x.making y.making))
    ∙ ap (lex x.cells.from y.cells.from) (number_first x.space y.space (nat_cmp x.making y.making) ∙ ap (lex x.space y.space) (number_alone x.making y.making))

pub stands_first : (x y : Lock) → is_lt (table_places x y) ≡ stands_before x y
stands_first x y = by_order (key_order x.cells.key y.cells.key)
  where
    by_order : (o : Ordering) → is_lt (ordering_then o (key_places x y)) ≡ (is_lt o || (is_eq o && comes_before x y))
    by_order Less = refl
    by_order Equal = comes_first x y
    by_order Greater = refl

pub comes_order : IsStrictWeakOrder comes_before
comes_order = subst IsStrictWeakOrder (λ i x y. comes_first x y i) (ranks_by key_places_total (λ (x : Lock). x))

pub stands_order : IsStrictWeakOrder stands_before
stands_order = subst IsStrictWeakOrder (λ i x y. stands_first x y i) (ranks_by table_places_total (λ (x : Lock). x))

-- ---- one place

-- what comes neither before nor behind is equal
neither : {R : Lock → Lock → Ordering} → IsTotalOrder R → (x y : Lock) → is_lt (R x y) ≡ false → is_lt (R y x) ≡ false → R x y ≡ Equal
neither {R} total x y not_less not_more = by_orders (R x y) (R y x) (total.antisymm x y) not_less not_more
  where
    by_orders : (o p : Ordering) → o ≡ ordering_reverse p → is_lt o ≡ false → is_lt p ≡ false → o ≡ Equal
    by_orders Equal p turned less more = refl
    by_orders Less p turned less more = cc
    by_orders Greater Less turned less more = cc
    by_orders Greater Equal turned less more = cc
    by_orders Greater Greater turned less more = cc

one_making : (x y : Lock) → key_places x y ≡ Equal → (x.making == y.making) ≡ true
one_making x y e =
    let later = both_equal (nat_cmp x.cells.from y.cells.from) (ordering_then (nat_cmp x.space y.space) (nat_cmp x.making y.making)) e in
    eq-eqb x.making y.making (exact_unsigned x.making y.making (both_equal (nat_cmp x.space y.space) (nat_cmp x.making y.making) later.1).1)

pub comes_one : (x y : Lock) → comes_before x y ≡ false → comes_before y x ≡ false → (x.making == y.making) ≡ true
comes_one x y less more = one_making x y (neither key_places_total x y (comes_first x y ∙ less) (comes_first y x ∙ more))

pub stands_one : (x y : Lock) → stands_before x y ≡ false → stands_before y x ≡ false → (x.making == y.making) ≡ true
stands_one x y less more =
    one_making x y (both_equal (key_order x.cells.key y.cells.key) (key_places x y) (neither table_places_total x y (stands_first x y ∙ less) (stands_first y x ∙ more))).1

-- ---- a sort by what items say

placed_map : {X Y : Type 0} (f : X → Y) (lt : Y → Y → Bool) (x : X) (ys : List X) → placed lt (f x) (map f ys) ≡ map f (placed (λ a b. lt (f a) (f b)) x ys)
placed_map f lt x [] = refl
placed_map {X} f lt x (y ∷ ys) = by_test (lt (f y) (f x)) (placed_map f lt x ys)
  where
    by_test : (b : Bool) → placed lt (f x) (map f ys) ≡ map f (placed (λ a c. lt (f a) (f c)) x ys)
        → cond b (f y ∷ placed lt (f x) (map f ys)) (f x ∷ f y ∷ map f ys) ≡ map f (cond b (y ∷ placed (λ a c. lt (f a) (f c)) x ys) (x ∷ y ∷ ys))
    by_test true rest = ap (λ zs. f y ∷ zs) rest
    by_test false rest = refl

pub sorted_map : {X Y : Type 0} (f : X → Y) (lt : Y → Y → Bool) (xs : List X) → sorted lt (map f xs) ≡ map f (sorted (λ a b. lt (f a) (f b)) xs)
sorted_map f lt [] = refl
sorted_map f lt (x ∷ xs) = ap (placed lt (f x)) (sorted_map f lt xs) ∙ placed_map f lt x (sorted (λ a b. lt (f a) (f b)) xs)
