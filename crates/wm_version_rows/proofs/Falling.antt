-- Numbers that fall, as they do along a path.
use Rattle.std.proofs.Common.{◌≡◌, ◌≢◌, ◌<◌, ◌≤◌, ◌||◌, ℕ, false, nat_eq, List, [], ◌∷◌, refl, ap, ◌∙◌, arith, ◌⊎◌, inl, inr}
use Rattle.std.proofs.lemmas.Bool.{cases_eq, ne_eqb}
use Rattle.std.specs.List.{list_any}
use Rattle.wm_tree.proofs.Paths.{parent_older, path_in-here, path_in-away}
use Rattle.wm_tree.specs.Versions.{path_in, IsTree}
use Rattle.wm_tree.specs.declared.version.Version.{Version as Node}

-- the numbers fall, from below a bound on
abbrev pub FallsBelow : ℕ → List ℕ → Type 0
FallsBelow bound [] = Unit {0}
FallsBelow bound (v ∷ vs) = (v < bound) × FallsBelow v vs

-- those of a path do
pub below_path : (vs : List Node) (w b : ℕ) → IsTree vs → w < b → FallsBelow b (path_in vs w)
below_path [] w b tree less = tt
below_path (x ∷ older) w b tree less = by_number (cases_eq x.number w) (below_path older w b tree.3 less) (below_path older x.parent w tree.3)
  where
    by_number : (x.number ≡ w) ⊎ (x.number ≢ w) → FallsBelow b (path_in older w) → (x.parent < w → FallsBelow w (path_in older x.parent)) → FallsBelow b (path_in (x ∷ older) w)
    by_number (inl here) rest parent = let smaller = parent_older x older tree in rw (path_in-here x older w here) (less, parent (omega (arith, smaller, here)))
    by_number (inr away) rest parent = rw (path_in-away x older w away) rest

-- a number from the bound on is not among them
pub not_below : (b : ℕ) (vs : List ℕ) (w : ℕ) → FallsBelow b vs → b ≤ w → list_any (nat_eq w) vs ≡ false
not_below b [] w below above = refl
not_below b (v ∷ vs) w below above =
    let first = below.0 in
    ap (λ c. c || list_any (nat_eq w) vs) (ne_eqb w v (λ same. absurd (omega (arith, first, above, same)))) ∙ not_below v vs w below.1 (omega (arith, first, above))
