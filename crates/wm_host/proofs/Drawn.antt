-- The lines of a script that a number draws are the lines that are given one after another: none of them has an LF or a CR.
use Rattle.std.proofs.Common.{ℕ, ◌≡◌, ◌<◌, ◌≤◌, ◌^◌, ◌==◌, ◌&&◌, Bool, true, false, nat_le, List, [], ◌∷◌, ◌++◌, length, map, codes, flat_map, refl, ap, ◌∙◌, append_assoc, arith}
use Rattle.std.specs.List.{list_all}
use Rattle.std.proofs.lemmas.Bool.{cond-false, leb-true, ne_eqb}
use Rattle.std.proofs.lemmas.List.Concat.{flat_map-cons}
use Rattle.wm_gen.specs.Script.{script_lines}
use Rattle.wm_gen.proofs.Counted.{length-script_lines}
use Rattle.wm_gen.proofs.Plain.{is_plain, plain_lines}
use Rattle.wm_model.specs.Lines.{HasNoLf, lines, without_cr}
use Rattle.wm_model.proofs.Cutting.{parts_ended}
use Rattle.wm_host.specs.Outcome.{load_lines}

first_of : (a b : Bool) → (a && b) ≡ true → a ≡ true
first_of true b p = refl
first_of false b p = p

second_of : (a b : Bool) → (a && b) ≡ true → b ≡ true
second_of true b p = p
second_of false b p = absurd (let e : false ≡ true = p in cc)

-- a byte that is not below the blank is none below it
no_byte : (byte below : ℕ) → nat_le 32 byte ≡ true → below < 32 → byte ≡ below → ⊥
no_byte byte below p low is = let high : 32 ≤ byte = leb-true 32 byte p in omega arith

no_lf : (line : List ℕ) → is_plain line ≡ true → HasNoLf line
no_lf [] p = tt
no_lf (b ∷ line) p = (ne_eqb b 10 (no_byte b 10 (first_of (nat_le 32 b) (is_plain line) p) (omega arith)), no_lf line (second_of (nat_le 32 b) (is_plain line) p))

no_cr : (line : List ℕ) → is_plain line ≡ true → without_cr line ≡ line
no_cr [] p = refl
no_cr (b ∷ []) p = cond-false (b == 13) [] (b ∷ []) (ne_eqb b 13 (no_byte b 13 (first_of (nat_le 32 b) true p) (omega arith)))
no_cr (b ∷ c ∷ line) p = ap (λ (rest : List ℕ). b ∷ rest) (no_cr (c ∷ line) (second_of (nat_le 32 b) (is_plain (c ∷ line)) p))

abbrev ended : List ℕ → List ℕ
ended line = line ++ codes "\n"

lines_ended : (ls : List (List ℕ)) → list_all is_plain ls ≡ true → lines (flat_map ended ls) ≡ ls
lines_ended [] p = refl
lines_ended (l ∷ ls) p =
    ap lines (flat_map-cons ended l ls ∙ append_assoc l (10 ∷ []) (flat_map ended ls))
    ∙ ap (map without_cr) (parts_ended true l (flat_map ended ls) (no_lf l (first_of (is_plain l) (list_all is_plain ls) p)))
    ∙ ap (λ (line : List ℕ). line ∷ lines (flat_map ended ls)) (no_cr l (first_of (is_plain l) (list_all is_plain ls) p))
    ∙ ap (λ (rest : List (List ℕ)). l ∷ rest) (lines_ended ls (second_of (is_plain l) (list_all is_plain ls) p))

pub load_lines_are : (seed count : ℕ) → load_lines seed count ≡ script_lines seed count
unfolding load_lines
load_lines_are seed count = lines_ended (script_lines seed count) (plain_lines seed count)

pub few_lines : (seed count : ℕ) → count < 2 ^ 32 → length (load_lines seed count) < 2 ^ 63
few_lines seed count few = omega (arith, few, ap length (load_lines_are seed count), length-script_lines seed count)
