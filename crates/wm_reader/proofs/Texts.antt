-- The test of what is text.
use Rattle.std.proofs.Common.{◌≡◌, ℕ, List, Bool, true, false, Result, Ok, Err, MatchResult, refl, sym}
use Rattle.std.specs.Result.{is_ok}
use Rattle.std.specs.Str.{IsUtf8, is_utf8}
use Rattle.std.proofs.lemmas.Str.{IsUtf8-from_is_utf8, is_utf8-from_IsUtf8}

-- the test of what is UTF-8, by a result that tells whether it is
pub is_ok-is_utf8 : {T E : Type 0} (r : Result T E) (bs : List ℕ) (P : T → Type 0) (Q : E → Type 0) → MatchResult r (λ x. P x × IsUtf8 bs) (λ e. (IsUtf8 bs → ⊥) × Q e) → is_ok r ≡ is_utf8 bs
is_ok-is_utf8 (Ok x) bs P Q h = sym (is_utf8-from_IsUtf8 bs h.1)
is_ok-is_utf8 (Err e) bs P Q h = sym (is_false (is_utf8 bs) (λ t. h.0 (IsUtf8-from_is_utf8 bs t)))
  where
    is_false : (t : Bool) → (t ≡ true → ⊥) → t ≡ false
    is_false true none = absurd (none refl)
    is_false false none = refl
