-- Laws of how far a list reaches at a cell.
use Rattle.std.proofs.Common.{◌≡◌, ℕ, suc, ◌+◌, ◌≤◌, nat_lt, Bool, true, false, ◌||◌, cond, if◌then◌else◌, List, [], ◌∷◌, ◌++◌, length, Option, None, Some, is_some, refl, ap, ◌∙◌, arith}
use Rattle.std.specs.Bool.{then_some}
use Rattle.std.specs.Option.{option_or}
use Rattle.wm_spec.specs.Lists.{Entry, Cell, Told, covers, reach, told, told_of, touched}
use Rattle.wm_spec.proofs.Lists.{told-append}

-- where nothing touches, the reach is 0; where something does, it is not
pub touched_reach : (es : List Entry) (c : Cell) → touched es c ≡ nat_lt 0 (reach es c)
touched_reach [] c = refl
touched_reach (e ∷ es) c = by_tests (told es c) (covers e c)
  where
    more : (r : ℕ) → true ≡ nat_lt 0 (r + 1)
    more r = grind (arith)

    by_tests : (o : Option Told) (b : Bool) → is_some (option_or o (then_some b (told_of e))) ≡ nat_lt 0 (if is_some o then reach es c + 1 else (if b then 1 else 0))
    by_tests (Some t) b = more (reach es c)
    by_tests None true = refl
    by_tests None false = refl

-- a cell is touched by one of two lists
pub touched-append : (xs ys : List Entry) (c : Cell) → touched (xs ++ ys) c ≡ (touched ys c || touched xs c)
touched-append xs ys c = ap (λ (o : Option Told). is_some o) (told-append xs ys c) ∙ by_last (told ys c)
  where
    by_last : (o : Option Told) → is_some (option_or o (told xs c)) ≡ (is_some o || touched xs c)
    by_last None = refl
    by_last (Some t) = refl

-- a list behind another: where it touches, its own reach, past the first list
pub reach-append : (xs ys : List Entry) (c : Cell) → reach (xs ++ ys) c ≡ (if touched ys c then reach ys c + length xs else reach xs c)
reach-append [] ys c = by_last (touched ys c) (touched_reach ys c)
  where
    none : (r : ℕ) → false ≡ nat_lt 0 r → r ≡ 0
    none r e = grind (arith, e)

    alone : (r : ℕ) → r ≡ r + 0
    alone r = omega arith

    by_last : (b : Bool) → b ≡ nat_lt 0 (reach ys c) → reach ys c ≡ (if b then reach ys c + 0 else 0)
    by_last true e = alone (reach ys c)
    by_last false e = none (reach ys c) e
reach-append (e ∷ xs) ys c = rw (touched-append xs ys c, reach-append xs ys c) (by_last (touched ys c))
  where
    further : (r n : ℕ) → (r + n) + 1 ≡ r + suc n
    further r n = omega arith

    by_last : (b : Bool)
        → (if b || touched xs c then (if b then reach ys c + length xs else reach xs c) + 1 else (if covers e c then 1 else 0))
        ≡ (if b then reach ys c + length (e ∷ xs) else (if touched xs c then reach xs c + 1 else (if covers e c then 1 else 0)))
    by_last true = further (reach ys c) (length xs)
    by_last false = refl

-- a log reaches no further than it is long
pub reach_within : (es : List Entry) (c : Cell) → reach es c ≤ length es
reach_within [] c = none_less
  where
    none_less : 0 ≤ 0
    none_less = omega arith
reach_within (e ∷ es) c = by_test (touched es c) (covers e c) (reach_within es c)
  where
    by_test : (t u : Bool) → reach es c ≤ length es → cond t (reach es c + 1) (cond u 1 0) ≤ length (e ∷ es)
    by_test true u rest = omega (arith, rest)
    by_test false true rest = omega arith
    by_test false false rest = omega arith
