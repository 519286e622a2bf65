-- How many rows are changed.
use Rattle.std.proofs.Common.{◌≡◌, ℕ, zero, suc, nat_lt, true, List, [], ◌∷◌, length, refl, arith}
use Rattle.std.proofs.lemmas.Bool.Decides.{nat_tests}
use Rattle.wm_dml.specs.declared.change.RowChange.{RowChange}

-- some rows are changed where changes are written
pub some_rows : (n : ℕ) (changes : List RowChange) → (n ≡ 0 → changes ≡ []) → nat_lt 0 (length changes) ≡ true → nat_lt 0 n ≡ true
some_rows zero [] none some = some
some_rows zero (x ∷ xs) none some = absurd (apart (none refl))
  where
    apart : x ∷ xs ≡ [] → ⊥
    apart h = cc
some_rows (suc n) changes none some = grind (arith, nat_tests)

-- what has no length has no rows
pub no_rows : {A : Type 0} (xs : List A) (n : ℕ) → n ≡ length xs → n ≡ 0 → xs ≡ []
no_rows [] n is none = refl
no_rows (x ∷ xs) n is none = absurd (omega (arith, is, none))
