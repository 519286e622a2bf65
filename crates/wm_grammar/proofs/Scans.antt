-- The symbols of a line, one after the other.
use Rattle.std.proofs.Common.{◌≡◌, ℕ, zero, suc, ◌≤◌, List, [], ◌∷◌, length, drop, refl, ap, arith}
use Rattle.std.proofs.Math.Nat.{le_refl}
use Rattle.std.proofs.lemmas.List.{length-drop, length-append}
use Rattle.wm_lexer.specs.Scanning.{skipped, token_from}
use Rattle.wm_lexer.proofs.Longest.{some_byte}
use Rattle.wm_lexer.proofs.Line.{skips}
use Rattle.wm_grammar.specs.Symbols.{Symbol}
use Rattle.wm_grammar.specs.Scanned.{symbol_from, scan, scanned}

pub skipped_shorter : (bs : List ℕ) → length (skipped bs) ≤ length bs
skipped_shorter bs = let s = skips bs in omega (arith, ap length s.is, length-append s.blanks (skipped bs))

next_shorter : (b : ℕ) (bs : List ℕ) → length (skipped (drop (token_from b bs).1 (b ∷ bs))) ≤ length bs
next_shorter b bs =
    let some = some_byte b bs in
    omega (arith, skipped_shorter (drop (token_from b bs).1 (b ∷ bs)), length-drop (token_from b bs).1 (b ∷ bs), some)

-- more turns than bytes change nothing
scan_enough : (n m : ℕ) (bytes : List ℕ) → length bytes ≤ n → length bytes ≤ m → scan n bytes ≡ scan m bytes
unfolding scan
scan_enough zero zero bytes p q = refl
scan_enough zero (suc m) [] p q = refl
scan_enough zero (suc m) (b ∷ bs) p q = absurd (omega arith)
scan_enough (suc n) zero [] p q = refl
scan_enough (suc n) zero (b ∷ bs) p q = absurd (omega arith)
scan_enough (suc n) (suc m) [] p q = refl
scan_enough (suc n) (suc m) (b ∷ bs) p q =
    let next : List ℕ = skipped (drop (token_from b bs).1 (b ∷ bs)) in
    ap (λ (x : List Symbol). symbol_from b bs ∷ x) (scan_enough n m next (omega (arith, next_shorter b bs)) (omega (arith, next_shorter b bs)))

pub scanned_none : scanned [] ≡ []
unfolding scanned scan
scanned_none = refl

pub scanned_one : (b : ℕ) (bs : List ℕ) → scanned (b ∷ bs) ≡ symbol_from b bs ∷ scanned (skipped (drop (token_from b bs).1 (b ∷ bs)))
unfolding scanned scan
scanned_one b bs =
    let next : List ℕ = skipped (drop (token_from b bs).1 (b ∷ bs)) in
    ap (λ (x : List Symbol). symbol_from b bs ∷ x) (scan_enough (length bs) (length next) next (next_shorter b bs) (le_refl (length next)))
