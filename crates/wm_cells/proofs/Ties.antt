-- Items in their order: where no two neighbours are equal, no two are.
use Rattle.std.proofs.Common.{◌≡◌, Bool, true, false, not, ◌&&◌, ◌||◌, List, [], ◌∷◌, refl, sym, ap, ◌∙◌}
use Rattle.std.proofs.lemmas.List.Sorted.{IsPermutation-map}
use Rattle.std.specs.Cmp.{IsTotalOrder}
use Rattle.std.specs.List.{list_any}
use Rattle.std.specs.List.Sorted.{IsSortedBy, IsPermutation}
use Rattle.std.specs.Ordering.{is_lt, is_eq, ordering_reverse}
use Rattle.std.specs.declared.cmp.Ordering.{Ordering}
use Rattle.std.specs.declared.cmp.Ordering.TheVariants.{Less, Equal, Greater}
use Rattle.wm_cells.proofs.Permuted.{differ_permuted}
use Rattle.wm_cells.proofs.Rising.{InOrder, Each, Rises, stands_before, sorted_rises}
use Rattle.wm_cells.specs.Lookups.{referred}
use Rattle.wm_cells.specs.Order.{alike, neighbours_differ}
use Rattle.wm_graph.specs.Rules.{differ}
use denote.Ref.{Bor}

-- whether two are equal does not depend on which is first
alike_turned : {A : Type 0} (order : A → A → Ordering) → IsTotalOrder order → (x y : A) → alike order x y ≡ alike order y x
alike_turned order total x y = ap is_eq (total.antisymm x y) ∙ turned (order y x)
  where
    turned : (o : Ordering) → is_eq (ordering_reverse o) ≡ is_eq o
    turned Less = refl
    turned Equal = refl
    turned Greater = refl

-- what stands between two that are equal is equal to them
between : (o p q : Ordering) → o ≡ ordering_reverse p → o ≡ q → is_lt p ≡ false → is_lt q ≡ false → is_eq o ≡ false → is_eq Equal ≡ false
between Less p q turned same low high near = cc
between Equal p q turned same low high near = near
between Greater Less q turned same low high near = cc
between Greater Equal q turned same low high near = cc
between Greater Greater q turned same low high near = cc

-- one that is not equal to the next is equal to none behind that
far_apart : {A : Type 0} (order : A → A → Ordering) → IsTotalOrder order → (x y z : A) → InOrder order x y → InOrder order y z → alike order x y ≡ false → alike order x z ≡ false
far_apart order total x y z low high near = by_order (order x z) refl
  where
    by_order : (o : Ordering) → order x z ≡ o → is_eq o ≡ false
    by_order Less e = refl
    by_order Equal e = between (order x y) (order y x) (order z y) (total.antisymm x y) (total.congr x z y e) low high near
    by_order Greater e = refl

none_far : {A : Type 0} (order : A → A → Ordering) → IsTotalOrder order → (x y : A) (zs : List A) → InOrder order x y → Each (InOrder order y) zs → alike order x y ≡ false → list_any (alike order x) zs ≡ false
none_far order total x y [] low high near = refl
none_far order total x y (z ∷ zs) low high near = rw (far_apart order total x y z low high.0 near) (none_far order total x y zs low high.1 near)

neighbours_tell : {A : Type 0} (order : A → A → Ordering) → IsTotalOrder order → (xs : List A) → Rises order xs → neighbours_differ (alike order) xs ≡ differ (alike order) xs
neighbours_tell order total [] up = refl
neighbours_tell order total (x ∷ []) up = refl
neighbours_tell order total (x ∷ (y ∷ ys)) up =
    by_test (alike order x y) refl (neighbours_tell order total (y ∷ ys) up.1) (λ near. none_far order total x y ys up.0.0 up.1.0 near)
  where
    by_test : (b : Bool) → alike order x y ≡ b → neighbours_differ (alike order) (y ∷ ys) ≡ differ (alike order) (y ∷ ys) → (alike order x y ≡ false → list_any (alike order x) ys ≡ false) → (not b && neighbours_differ (alike order) (y ∷ ys)) ≡ (not (b || list_any (alike order x) ys) && differ (alike order) (y ∷ ys))
    by_test true e rest far = refl
    by_test false e rest far = rw (far e) rest

-- the neighbours of the sorted items tell whether any two are equal
pub sorted_differ : {A : Type 0} (order : A → A → Ordering) → IsTotalOrder order → (items sorted : List (Bor A)) → IsPermutation items sorted → IsSortedBy (stands_before order) sorted → neighbours_differ (alike order) (referred sorted) ≡ differ (alike order) (referred items)
sorted_differ {A} order total items sorted moved up =
    neighbours_tell order total (referred sorted) (sorted_rises order total sorted up)
    ∙ sym (differ_permuted (alike order) (alike_turned order total) (referred items) (referred sorted) (IsPermutation-map (λ (r : Bor A). r.now) items sorted moved))
