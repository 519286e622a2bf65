-- Items that a sort has put in their order, seen through references.
use Rattle.std.proofs.Common.{◌≡◌, ℕ, ◌<◌, ◌≤◌, Bool, false, List, [], ◌∷◌, length, suc, zero, arith, get_or}
use Rattle.std.proofs.lemmas.List.Sorted.{ranks_by, sorted_far}
use Rattle.std.specs.Cmp.{IsTotalOrder, IsStrictWeakOrder}
use Rattle.std.specs.List.Sorted.{IsSortedBy}
use Rattle.std.specs.Ordering.{is_lt}
use Rattle.std.specs.declared.cmp.Ordering.{Ordering}
use Rattle.wm_cells.specs.Lookups.{referred}
use denote.Ref.{Bor}

-- the second does not stand before the first
abbrev pub InOrder : {A : Type 0} → (A → A → Ordering) → A → A → Type 0
InOrder order x y = is_lt (order y x) ≡ false

-- each of a list has the property
abbrev pub Each : {A : Type 0} → (A → Type 0) → List A → Type 0
Each P [] = Unit {0}
Each P (x ∷ xs) = P x × Each P xs

-- each stands in order with all behind it
abbrev pub Rises : {A : Type 0} → (A → A → Ordering) → List A → Type 0
Rises order [] = Unit {0}
Rises order (x ∷ xs) = Each (InOrder order x) xs × Rises order xs

each_in_order : {A : Type 0} (order : A → A → Ordering) (x : A) (ys : List (Bor A)) → ((j : ℕ) (d : Bor A) → j < length ys → InOrder order x (get_or ys j d).now) → Each (InOrder order x) (referred ys)
each_in_order order x [] h = tt
each_in_order order x (y ∷ ys) h = (h zero y (omega arith), each_in_order order x ys (λ j d within. h (suc j) d (omega (arith, within))))

rises : {A : Type 0} (order : A → A → Ordering) (xs : List (Bor A)) → ((i j : ℕ) (d : Bor A) → i ≤ j → j < length xs → InOrder order (get_or xs i d).now (get_or xs j d).now) → Rises order (referred xs)
rises order [] far = tt
rises order (x ∷ xs) far = (
  each_in_order order x.now xs (λ j d within. far zero (suc j) d (omega arith) (omega (arith, within))),
  rises order xs (λ i j d below within. far (suc i) (suc j) d (omega (arith, below)) (omega (arith, within))),
)

-- a reference stands before another
abbrev pub stands_before : {A : Type 0} → (A → A → Ordering) → Bor A → Bor A → Bool
stands_before order x y = is_lt (order x.now y.now)

pub stands_before_ranks : {A : Type 0} (order : A → A → Ordering) → IsTotalOrder order → IsStrictWeakOrder (stands_before order)
stands_before_ranks {A} order total = ranks_by total (λ (r : Bor A). r.now)

-- what a sort gives rises
pub sorted_rises : {A : Type 0} (order : A → A → Ordering) → IsTotalOrder order → (sorted : List (Bor A)) → IsSortedBy (stands_before order) sorted → Rises order (referred sorted)
sorted_rises order total sorted up =
    rises order sorted (λ i j d below within. sorted_far (stands_before order) (stands_before_ranks order total) sorted up i j d below within)
