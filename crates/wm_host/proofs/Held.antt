-- Laws on what is held of a line.
use Rattle.std.proofs.Common.{ℕ, zero, suc, ◌≡◌, ◌≢◌, ◌<◌, ◌==◌, nat_lt, Bool, true, false, cond, List, [], ◌∷◌, ◌++◌, length, get_or, take, refl, ap, sym, ◌∙◌, length-append, arith}
use Rattle.std.proofs.lemmas.List.{take_at, take_all}
use Rattle.std.proofs.lemmas.Bool.{cond-true, cond-false, eq-eqb, ne_eqb, le-ltb, false≢true}
use Rattle.wm_model.specs.Lines.{cap, without_cr, held_more}
use Rattle.wm_model.proofs.Cutting.{cap-long, cap-without_cr-long}

-- the line of which n bytes stand before a CR
pub without_cr-ends : (line : List ℕ) (n : ℕ) → length line ≡ suc n → get_or line n 0 ≡ 13 → take n line ≡ without_cr line
without_cr-ends [] n size cr = absurd (omega arith)
without_cr-ends (b ∷ []) zero size cr = sym (cond-true (b == 13) [] (b ∷ []) (eq-eqb b 13 cr))
without_cr-ends (b ∷ []) (suc n) size cr = absurd (omega arith)
without_cr-ends (b ∷ c ∷ line) zero size cr = absurd (omega arith)
without_cr-ends (b ∷ c ∷ line) (suc n) size cr = ap (λ (l : List ℕ). b ∷ l) (without_cr-ends (c ∷ line) n (omega arith) cr)

pub without_cr-other : (line : List ℕ) (n : ℕ) → length line ≡ suc n → get_or line n 0 ≢ 13 → line ≡ without_cr line
without_cr-other [] n size other = refl
without_cr-other (b ∷ []) zero size other = sym (cond-false (b == 13) [] (b ∷ []) (ne_eqb b 13 other))
without_cr-other (b ∷ []) (suc n) size other = absurd (omega arith)
without_cr-other (b ∷ c ∷ line) zero size other = absurd (omega arith)
without_cr-other (b ∷ c ∷ line) (suc n) size other = ap (λ (l : List ℕ). b ∷ l) (without_cr-other (c ∷ line) n (omega arith) other)

pub without_cr-empty : (line : List ℕ) → length line ≡ 0 → line ≡ without_cr line
without_cr-empty [] size = refl
without_cr-empty (b ∷ line) size = absurd (omega arith)

-- a line of which bytes were let go is as any other that is too long
pub cap-over : (bytes held : List ℕ) (over : Bool) → over ≡ true → cond over (bytes ++ 0 ∷ []) bytes ≡ held → (over ≡ true → length bytes ≡ 16385) → cap bytes ≡ cap (without_cr held)
cap-over bytes held over is view full =
    cap-long bytes (omega (arith, full is))
    ∙ sym (ap (λ (l : List ℕ). cap (without_cr l)) (sym view ∙ cond-true over (bytes ++ 0 ∷ []) bytes is) ∙ cap-without_cr-long (bytes ++ 0 ∷ []) (omega (arith, full is, length-append bytes (0 ∷ []))))

-- one byte more than there is room for
pub held_more-full : (bytes held : List ℕ) (over : Bool) (b : ℕ) → length bytes ≡ 16385 → cond over (bytes ++ 0 ∷ []) bytes ≡ held → bytes ++ 0 ∷ [] ≡ held_more held b
held_more-full bytes held true b full view = ap (λ (l : List ℕ). l ++ 0 ∷ []) (sym (take_at bytes (0 ∷ []) 16385 full))
    ∙ sym (cond-false (nat_lt (length (bytes ++ 0 ∷ [])) 16385) ((bytes ++ 0 ∷ []) ++ b ∷ []) (take 16385 (bytes ++ 0 ∷ []) ++ 0 ∷ []) (le-ltb (length (bytes ++ 0 ∷ [])) 16385 (omega (arith, length-append bytes (0 ∷ [])))))
    ∙ ap (λ (l : List ℕ). held_more l b) view
held_more-full bytes held false b full view = ap (λ (l : List ℕ). l ++ 0 ∷ []) (sym (take_all 16385 bytes (omega arith)))
    ∙ sym (cond-false (nat_lt (length bytes) 16385) (bytes ++ b ∷ []) (take 16385 bytes ++ 0 ∷ []) (le-ltb (length bytes) 16385 (omega arith)))
    ∙ ap (λ (l : List ℕ). held_more l b) view

pub more_of_test : (empty : Bool) (xs : List ℕ) → empty ≡ (length xs == 0) → empty ≡ false → 0 < length xs
more_of_test empty [] is not_empty = absurd (false≢true (sym not_empty ∙ is))
more_of_test empty (x ∷ xs) is not_empty = omega arith
