-- Items side by side.
use Rattle.std.proofs.Common.{◌≡◌, ℕ, ◌-◌, ◌≤◌, Bool, true, List, [], ◌∷◌, length, refl, sym, ◌∙◌, arith, drop}
use Rattle.std.proofs.lemmas.List.{length-drop}
use Rattle.wm_cells.specs.Lookups.{referred}
use Rattle.wm_cells.specs.Order.{neighbours_differ}
use denote.Ref.{Bor}

-- one item has no neighbour
few_differ : {A : Type 0} (same : A → A → Bool) (xs : List (Bor A)) → length xs ≤ 1 → neighbours_differ same (referred xs) ≡ true
few_differ same [] few = refl
few_differ same (x ∷ []) few = refl
few_differ same (x ∷ (y ∷ ys)) few = absurd (omega (arith, few))

-- the end of the loop over the places from 1 on
pub all_differ : {A : Type 0} (same : A → A → Bool) (xs : List (Bor A)) (i : ℕ) → length xs ≤ i → neighbours_differ same (referred xs) ≡ neighbours_differ same (referred (drop (i - 1) xs)) → true ≡ neighbours_differ same (referred xs)
all_differ same xs i end is = sym (is ∙ few_differ same (drop (i - 1) xs) (omega (arith, length-drop (i - 1) xs)))
