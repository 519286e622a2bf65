-- Numbers that are read digit by digit.
use Rattle.std.proofs.Common.{◌≡◌, ℕ, suc, ◌+◌, ◌-◌, ◌*◌, ◌/◌, ◌≤◌, ◌<◌, Bool, true, false, cond, leb, List, [], ◌∷◌, length, drop, get_or, Option, Some, None, refl, sym, ap, ◌∙◌, arith}
use Rattle.std.proofs.Math.Seq.{drop-cons}
use Rattle.std.proofs.lemmas.Bool.{leb-true}
use Rattle.wm_grammar.specs.Meaning.{number_of, number_from, greatest}

pub number_grows : (n : ℕ) (digits : List ℕ) → n ≤ number_from n digits
number_grows n [] = omega arith
number_grows n (b ∷ bs) = omega (arith, number_grows (10 * n + (b - 48)) bs)

-- no number
abbrev pub no_number : Option ℕ
no_number = None

above : (n : ℕ) → greatest < n → no_number ≡ cond (leb n greatest) (Some n) no_number
above n lt = go (leb n greatest) refl
  where
    go : (z : Bool) → leb n greatest ≡ z → no_number ≡ cond z (Some n) no_number
    go true e = absurd (omega (arith, leb-true n greatest e))
    go false e = refl

-- a number that is above the greatest stays so, whatever digits follow
pub too_large : (digits : List ℕ) (n i digit : ℕ) → number_of digits ≡ number_from n (drop i digits) → i < length digits → digit ≡ get_or digits i 0 - 48 → (greatest - digit) / 10 < n
    → no_number ≡ cond (leb (number_of digits) greatest) (Some (number_of digits)) no_number
too_large digits n i digit same lt d large =
    let next : number_of digits ≡ number_from (10 * n + digit) (drop (suc i) digits) = same ∙ ap (number_from n) (drop-cons digits i 0 lt) ∙ ap (λ (x : ℕ). number_from (10 * n + x) (drop (suc i) digits)) (sym d) in
    above (number_of digits) (omega (arith, next, number_grows (10 * n + digit) (drop (suc i) digits)))

pub some_within : (n m : ℕ) → Some n ≡ cond (leb m greatest) (Some m) no_number → n ≡ cond (leb m greatest) m 0
some_within n m e = go (leb m greatest) e
  where
    go : (z : Bool) → Some n ≡ cond z (Some m) no_number → n ≡ cond z m 0
    go true e = cc
    go false e = absurd cc

pub none_within : (m : ℕ) → no_number ≡ cond (leb m greatest) (Some m) no_number → 0 ≡ cond (leb m greatest) m 0
none_within m e = go (leb m greatest) e
  where
    go : (z : Bool) → no_number ≡ cond z (Some m) no_number → 0 ≡ cond z m 0
    go true e = absurd cc
    go false e = refl
