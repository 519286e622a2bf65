-- Pages that a list names.
use Rattle.std.proofs.Common.{◌≡◌, ℕ, ◌^◌, ◌<◌, ◌≤◌, true, false, List, [], ◌∷◌, refl, arith}
use Rattle.std.proofs.lemmas.Grind.{common_steps}
use Rattle.wm_page.specs.Entries.{is_named, found}
use Rattle.wm_journal.specs.Disk.{are_below}
use Rattle.wm_journal.proofs.ReadBack.{FitAll}

pub found_unnamed : (p : ℕ) (es : List (ℕ × List ℕ)) (x : List ℕ) → is_named p es ≡ false → found p es x ≡ x
found_unnamed p [] x not = refl
found_unnamed p (e ∷ es) x not = grind (arith, found_unnamed p es x)

pub found_named : (p : ℕ) (es : List (ℕ × List ℕ)) (x y : List ℕ) → is_named p es ≡ true → found p es x ≡ found p es y
found_named p [] x y named = grind arith
found_named p (e ∷ es) x y named = grind (arith, found_named p es x y)

pub found_found : (p : ℕ) (es : List (ℕ × List ℕ)) (x : List ℕ) → found p es (found p es x) ≡ found p es x
found_found p [] x = refl
found_found p (e ∷ es) x = grind (arith, found_found p es x)

pub below_named : (s p : ℕ) (es : List (ℕ × List ℕ)) → are_below s es ≡ true → is_named p es ≡ true → (1 ≤ p) × (p < s)
below_named s p [] below named = grind arith
below_named s p (e ∷ es) below named = grind (arith, common_steps, below_named s p es)

pub below_fit : (s : ℕ) (es : List (ℕ × List ℕ)) → s ≤ 2 ^ 64 → are_below s es ≡ true → FitAll es
below_fit s [] small below = tt
below_fit s (e ∷ es) small below = (grind (arith, common_steps), below_fit s es small (grind (arith, common_steps)))

pub below_weaker : (s t : ℕ) (es : List (ℕ × List ℕ)) → s ≤ t → are_below s es ≡ true → are_below t es ≡ true
below_weaker s t [] le below = refl
below_weaker s t (e ∷ es) le below = grind (arith, common_steps, below_weaker s t es le)
