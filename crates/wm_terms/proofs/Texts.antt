-- What a text stands for is no longer than it.
use Rattle.std.proofs.Common.{ℕ, ◌≤◌, Bool, true, false, cond, List, [], ◌∷◌, length, drop, arith}
use Rattle.std.specs.Prelude.{◌==◌}
use Rattle.std.proofs.lemmas.List.{length-drop}
use Rattle.wm_grammar.specs.Meaning.{unquoted, unquoted_from}

from_short : (quote : Bool) (bs : List ℕ) → length (unquoted_from quote bs) ≤ length bs
from_short false [] = omega arith
from_short true [] = omega arith
from_short false (b ∷ bs) =
    let t = from_short true bs in
    let f = from_short false bs in
    elim (b == 39) as (λ z. length (cond z (unquoted_from true bs) (b ∷ unquoted_from false bs)) ≤ length (b ∷ bs)) [ true ↦ omega (arith, t) | false ↦ omega (arith, f) ]
from_short true (b ∷ bs) =
    let f = from_short false bs in
    elim (b == 39) as (λ z. length (cond z (39 ∷ unquoted_from false bs) []) ≤ length (b ∷ bs)) [ true ↦ omega (arith, f) | false ↦ omega arith ]

pub unquoted_short : (w : List ℕ) → length (unquoted w) ≤ length w
unfolding unquoted
unquoted_short w = omega (arith, from_short false (drop 1 w), length-drop 1 w)
