-- Items in their order: where no two neighbours overlap though they may not, no two do.
use Rattle.std.proofs.Common.{◌≡◌, ℕ, ◌<◌, ◌≤◌, Bool, true, false, not, ◌&&◌, ◌||◌, nat_lt, List, [], ◌∷◌, refl, sym, ap, ◌∙◌, arith}
use Rattle.std.proofs.lemmas.Bool.Decides.{nat_tests}
use Rattle.std.proofs.lemmas.Bool.{and_parts, lt-ltb, ltb-true}
use Rattle.std.proofs.lemmas.Cmp.{nat_cmp_total, on_total, then_total}
use Rattle.std.proofs.lemmas.List.Sorted.{IsPermutation-map}
use Rattle.std.specs.Cmp.{IsTotalOrder, Equal-is}
use Rattle.std.specs.List.{list_any, list_all}
use Rattle.std.specs.List.Sorted.{IsSortedBy, IsPermutation}
use Rattle.std.specs.Ordering.{nat_cmp, is_lt, is_eq, ordering_then, ordering_reverse}
use Rattle.std.specs.declared.cmp.Ordering.{Ordering}
use Rattle.std.specs.declared.cmp.Ordering.TheVariants.{Less, Equal, Greater}
use Rattle.wm_cells.proofs.Rising.{InOrder, Each, Rises, stands_before, sorted_rises}
use Rattle.wm_cells.proofs.Permuted.{differ_permuted, all_permuted}
use Rattle.wm_cells.specs.Lookups.{referred}
use Rattle.wm_cells.specs.Order.{beginning_order, neighbours_differ, overlap}
use Rattle.wm_graph.specs.Rules.{differ}
use Rattle.wm_spec.specs.declared.record.cell_range.CellRange.{CellRange}
use denote.Ref.{Bor}

-- ---- orders

-- two of one group that stand in order begin in order
in_order_from : (o : Ordering) (m n : ℕ) → is_lt (ordering_then o (nat_cmp n m)) ≡ false → o ≡ Equal → m ≤ n
in_order_from Less m n h e = cc
in_order_from Equal m n h e = grind (arith, nat_tests)
in_order_from Greater m n h e = cc

not_less : (o p : Ordering) → is_lt (ordering_then o p) ≡ false → o ≡ Less → ⊥
not_less Less p h e = cc
not_less Equal p h e = cc
not_less Greater p h e = cc

turned : (o p : Ordering) → o ≡ ordering_reverse p → p ≡ Greater → o ≡ Less
turned o p e g = e ∙ ap ordering_reverse g

-- an order of groups of items, which are on cells
module _ {A : Type 0} (group : A → A → Ordering) (cells : A → CellRange) (total : IsTotalOrder group) where
  pub beginning_order_total : IsTotalOrder (beginning_order group cells)
  beginning_order_total = then_total total (on_total (λ (x : A). (cells x).from) nat_cmp_total)

  -- the second does not stand before the first
  abbrev ItemsInOrder : A → A → Type 0
  ItemsInOrder = InOrder (beginning_order group cells)

  -- what stands between two of one group is of that group
  between : (x y z : A) → ItemsInOrder x y → ItemsInOrder y z → group x z ≡ Equal → group y x ≡ Equal
  between x y z low high one = by_order (group y x) refl
    where
      by_order : (o : Ordering) → group y x ≡ o → o ≡ Equal
      by_order Less e = absurd (not_less _ _ low e)
      by_order Equal e = refl
      by_order Greater e =
          absurd (not_less _ _ high (sym (total.congr x z y one) ∙ turned (group x y) (group y x) (total.antisymm x y) e))

  -- two that overlap are of one group, and each begins before the other ends
  record Overlapping (x y : A) : Type 0 where
    same : group x y ≡ Equal
    first : (cells x).from < (cells y).till
    second : (cells y).from < (cells x).till

  overlapping : (x y : A) → overlap group cells x y ≡ true → Overlapping x y
  overlapping x y e =
      let parts = and_parts (is_eq (group x y)) (nat_lt (cells x).from (cells y).till && nat_lt (cells y).from (cells x).till) e in
      let times = and_parts (nat_lt (cells x).from (cells y).till) (nat_lt (cells y).from (cells x).till) parts.1 in
      record {
        same = (Equal-is (group x y)).0 parts.0;
        first = ltb-true (cells x).from (cells y).till times.0;
        second = ltb-true (cells y).from (cells x).till times.1;
      }

  overlapped : (x y : A) → Overlapping x y → overlap group cells x y ≡ true
  overlapped x y o =
      rw (o.same, lt-ltb (cells x).from (cells y).till o.first, lt-ltb (cells y).from (cells x).till o.second) refl

  -- whether two overlap does not depend on which is first
  overlap_turned : (x y : A) → overlap group cells x y ≡ overlap group cells y x
  overlap_turned x y = by_tests (overlap group cells x y) (overlap group cells y x) refl refl
    where
      turn : (v w : A) → Overlapping v w → Overlapping w v
      turn v w o = record { same = total.antisymm w v ∙ ap ordering_reverse o.same; first = o.second; second = o.first }

      by_tests : (a b : Bool) → overlap group cells x y ≡ a → overlap group cells y x ≡ b → a ≡ b
      by_tests true true d e = refl
      by_tests false false d e = refl
      by_tests true false d e = sym (overlapped y x (turn x y (overlapping x y d))) ∙ e
      by_tests false true d e = sym d ∙ overlapped x y (turn y x (overlapping y x e))

  -- one that does not overlap with the next does so with none behind that
  far_apart : (x y z : A) → (cells y).from < (cells y).till → ItemsInOrder x y → ItemsInOrder y z → overlap group cells x y ≡ false → overlap group cells x z ≡ false
  far_apart x y z lasts low high near = by_test (overlap group cells x z) refl
    where
      by_test : (b : Bool) → overlap group cells x z ≡ b → b ≡ false
      by_test false e = refl
      by_test true e =
          let far = overlapping x z e in
          let back = between x y z low high far.same in
          let there : group x y ≡ Equal = total.antisymm x y ∙ ap ordering_reverse back in
          let begins : (cells x).from ≤ (cells y).from = in_order_from (group y x) (cells x).from (cells y).from low back in
          let later : (cells y).from ≤ (cells z).from = in_order_from (group z y) (cells y).from (cells z).from high (sym (total.congr x z y far.same) ∙ there) in
          let meets : Overlapping x y = record { same = there; first = omega (arith, begins, lasts); second = omega (arith, later, far.second) } in
          sym (overlapped x y meets) ∙ near

  none_far : (x y : A) (zs : List A) → (cells y).from < (cells y).till → ItemsInOrder x y → Each (ItemsInOrder y) zs → overlap group cells x y ≡ false → list_any (overlap group cells x) zs ≡ false
  none_far x y [] lasts low high near = refl
  none_far x y (z ∷ zs) lasts low high near = rw (far_apart x y z lasts low high.0 near) (none_far x y zs lasts low high.1 near)

  abbrev lasts : A → Bool
  lasts x = nat_lt (cells x).from (cells x).till

  neighbours_tell : (xs : List A) → Rises (beginning_order group cells) xs → list_all lasts xs ≡ true → neighbours_differ (overlap group cells) xs ≡ differ (overlap group cells) xs
  neighbours_tell [] up all = refl
  neighbours_tell (x ∷ []) up all = refl
  neighbours_tell (x ∷ (y ∷ ys)) up all =
      let first = and_parts (lasts x) (list_all lasts (y ∷ ys)) all in
      let second = and_parts (lasts y) (list_all lasts ys) first.1 in
      by_test (overlap group cells x y) refl (neighbours_tell (y ∷ ys) up.1 first.1)
      (λ near. none_far x y ys (ltb-true (cells y).from (cells y).till second.0) up.0.0 up.1.0 near)
    where
      by_test : (b : Bool) → overlap group cells x y ≡ b → neighbours_differ (overlap group cells) (y ∷ ys) ≡ differ (overlap group cells) (y ∷ ys) → (overlap group cells x y ≡ false → list_any (overlap group cells x) ys ≡ false) → (not b && neighbours_differ (overlap group cells) (y ∷ ys)) ≡ (not (b || list_any (overlap group cells x) ys) && differ (overlap group cells) (y ∷ ys))
      by_test true e rest far = refl
      by_test false e rest far = rw (far e) rest

  -- the neighbours of the sorted items tell whether any overlap
  pub sorted_tell : (items sorted : List (Bor A)) → IsPermutation items sorted → IsSortedBy (stands_before (beginning_order group cells)) sorted → list_all lasts (referred items) ≡ true → neighbours_differ (overlap group cells) (referred sorted) ≡ differ (overlap group cells) (referred items)
  sorted_tell items sorted moved up all =
      let same = IsPermutation-map (λ (r : Bor A). r.now) items sorted moved in
      neighbours_tell (referred sorted)
      (sorted_rises (beginning_order group cells) beginning_order_total sorted up)
      (sym (all_permuted lasts (referred items) (referred sorted) same) ∙ all)
      ∙ sym (differ_permuted (overlap group cells) overlap_turned (referred items) (referred sorted) same)
