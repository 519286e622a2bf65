-- A state by a product and a sum that wrap, and what is given once the opening lines are.
use Rattle.std.proofs.Common.{◌≡◌, ℕ, zero, suc, ◌+◌, ◌*◌, ◌%◌, ◌^◌, List, [], ◌∷◌, ◌++◌, drop, Option, None, is_some, true≢false, refl, ap, sym, subst}
use Rattle.std.specs.Prelude.{slice_get}
use Rattle.std.proofs.Math.Nat.{mod-add-mod}
use Rattle.wm_gen.specs.Script.{Gives}

-- a product and a sum that wrap, one after the other, wrap once
pub wraps_once : (x factor increment : ℕ) → (x * factor % 2 ^ 64 + increment) % 2 ^ 64 ≡ (x * factor + increment) % 2 ^ 64
wraps_once x factor increment = mod-add-mod (x * factor) (2 ^ 64) increment

-- where nothing stands at a place, nothing stands behind it
drop_past : {X : Type 0} (xs : List X) (place : ℕ) → slice_get xs place ≡ None → drop place xs ≡ []
drop_past [] zero none = refl
drop_past [] (suc place) none = refl
drop_past (x ∷ xs) zero none = absurd (true≢false (ap is_some none))
drop_past (x ∷ xs) (suc place) none = drop_past xs place none

-- where all that stands before was given, what is given is of those behind
pub given_behind : (xs : List (List ℕ)) (place : ℕ) (coming left : List (List ℕ)) (line : Option (List ℕ)) → slice_get xs place ≡ None → Gives coming line left
    → Gives (drop place xs ++ coming) line (drop place xs ++ left)
given_behind xs place coming left line none given =
    subst (λ (front : List (List ℕ)). Gives (front ++ coming) line (front ++ left)) (sym (drop_past xs place none)) given
