-- How many lines a script has.
use Rattle.std.proofs.Common.{◌≡◌, ℕ, zero, suc, ◌+◌, length, refl, ap, ◌∙◌, length-append}
use Rattle.wm_gen.specs.Script.{drawn_lines, next, opening_lines, script_lines}

length-drawn_lines : (state count : ℕ) → length (drawn_lines state count) ≡ count
length-drawn_lines state zero = refl
length-drawn_lines state (suc count) = ap suc (length-drawn_lines (next (next (next (next state)))) count)

pub length-script_lines : (seed count : ℕ) → length (script_lines seed count) ≡ 8 + count
unfolding opening_lines
length-script_lines seed count = length-append opening_lines (drawn_lines seed count) ∙ ap (λ n. 8 + n) (length-drawn_lines seed count)
