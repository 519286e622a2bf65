-- Last positions: what they say of what touches from a position on, and of lists that cover each cell once.
use Rattle.std.proofs.Common.{◌≡◌, ℕ, ◌+◌, List, [], ◌∷◌, ◌++◌, length, drop, zero, suc, Option, None, Some, is_some, option_map, Bool, true, false, ◌||◌, if◌then◌else◌, nat_lt, refl, ◌∙◌, arith}
use Rattle.std.proofs.lemmas.Bool.Decides.{nat_tests}
use Rattle.std.specs.Bool.{then_some}
use Rattle.std.specs.Option.{option_or}
use Rattle.wm_spec.proofs.Reaching.{touched_reach}
use Rattle.wm_spec.specs.Lists.{Entry, Cell, touched, covers, reach}
use Rattle.wm_net.specs.Places.{last_position, Once}
use Rattle.wm_net.proofs.Alikes.{touched-cons}

-- the greatest position decides what touches from a position on
pub touched-drop : (n : ℕ) (xs : List Entry) (c : Cell) → touched (drop n xs) c ≡ nat_lt n (reach xs c)
touched-drop zero xs c = touched_reach xs c
touched-drop (suc n) [] c = grind (arith, nat_tests)
touched-drop (suc n) (x ∷ xs) c = touched-drop n xs c ∙ by_test (touched xs c) (covers x c) (touched_reach xs c)
  where
    by_test : (a b : Bool) → a ≡ nat_lt 0 (reach xs c) → nat_lt n (reach xs c) ≡ nat_lt (suc n) (if a then reach xs c + 1 else (if b then 1 else 0))
    by_test true b e = grind (arith, nat_tests)
    by_test false true e = grind (arith, nat_tests)
    by_test false false e = grind (arith, nat_tests)

-- in a list whose entries cover each cell once, a position is that of its entry
pub reach_once : (xs : List Entry) (e : Entry) (ys : List Entry) (c : Cell) → Once (xs ++ e ∷ ys) → covers e c ≡ true → reach (xs ++ e ∷ ys) c ≡ length xs + 1
reach_once [] e ys c once h = rw (once.0 c h, h) refl
reach_once (x ∷ xs) e ys c once h =
    let rest : reach (xs ++ e ∷ ys) c ≡ length xs + 1 = reach_once xs e ys c once.1 h in
    let touches : touched (xs ++ e ∷ ys) c ≡ true = touched_reach (xs ++ e ∷ ys) c ∙ rw rest (grind (arith, nat_tests)) in
    rw (touches, rest) (omega arith)

-- one more than a position, 0 where there is none
abbrev pub past_position : Option ℕ → ℕ
past_position None = 0
past_position (Some p) = p + 1

pub touched-last : (es : List Entry) (c : Cell) → touched es c ≡ is_some (last_position es c)
touched-last [] c = refl
touched-last (e ∷ es) c = touched-cons e es c ∙ rw (touched-last es c) (by_last (last_position es c) (covers e c))
  where
    by_last : (o : Option ℕ) (b : Bool) → (is_some o || b) ≡ is_some (option_or (option_map (λ (n : ℕ). n + 1) o) (then_some b 0))
    by_last (Some p) b = refl
    by_last None true = refl
    by_last None false = refl

pub reach-last : (es : List Entry) (c : Cell) → reach es c ≡ past_position (last_position es c)
reach-last [] c = refl
reach-last (e ∷ es) c = rw (touched-last es c, reach-last es c) (by_last (last_position es c) (covers e c))
  where
    by_last : (o : Option ℕ) (b : Bool) → (if is_some o then past_position o + 1 else (if b then 1 else 0)) ≡ past_position (option_or (option_map (λ (n : ℕ). n + 1) o) (then_some b 0))
    by_last (Some p) b = refl
    by_last None true = refl
    by_last None false = refl
