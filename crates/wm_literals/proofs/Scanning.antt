-- Going over the symbols of a line.
use Rattle.std.proofs.Common.{◌≡◌, ℕ, zero, suc, ◌+◌, ◌-◌, ◌≤◌, ◌<◌, Bool, true, false, cond, leb, List, [], ◌∷◌, length, refl, sym, ap, ◌∙◌, arith, Some, None}
use Rattle.std.specs.Prelude.{not, ◌==◌, ◌&&◌, ◌^◌, nat_le, is_some}
use Rattle.std.proofs.lemmas.Bool.{eqb-true}
use Rattle.wm_lexer.specs.Scanning.{skipped}
use Rattle.wm_grammar.specs.Symbols.{Symbol, left_of}
use Rattle.wm_grammar.specs.Sorts as sorts
use Rattle.wm_grammar.specs.Meaning.{greatest}
use Rattle.wm_grammar.specs.Scanned.{scan, scanned, symbols_of}
use Rattle.wm_grammar.proofs.Scans.{skipped_shorter}
use Rattle.wm_grammar.specs.Next.{next_sort, behind, no_more}
use Rattle.wm_terms.proofs.Numbers.{no_number}
use Rattle.wm_grammar.specs.Literals.{Before, nothing, depth_after, after, first_from, is_bad, bad_within, is_bad_in_line, bad_literal}

scan_short : (n : ℕ) (bytes : List ℕ) → length (scan n bytes) ≤ n
unfolding scan
scan_short zero bytes = omega arith
scan_short (suc n) [] = omega arith
scan_short (suc n) (b ∷ bs) = omega (arith, scan_short n)

-- there are no more symbols than bytes
pub few_symbols : (bytes : List ℕ) → length (symbols_of bytes) ≤ length bytes
unfolding scanned
few_symbols bytes = omega (arith, scan_short (length (skipped bytes)) (skipped bytes), skipped_shorter bytes)

pub some_left : (ts : List Symbol) → no_more ts ≡ false → 1 ≤ length ts
some_left [] e = absurd cc
some_left (t ∷ ts) e = omega arith

pub behind_less : (ts : List Symbol) → no_more ts ≡ false → length (behind ts) < length ts
behind_less [] e = absurd cc
behind_less (t ∷ ts) e = omega arith

pub depth_grows : (depth sort : ℕ) → depth_after depth sort ≤ depth + 1
depth_grows depth sort = go (sort == sorts.OPEN) (sort == sorts.CLOSE)
  where
    go : (a b : Bool) → cond a (depth + 1) (cond b (depth - 1) depth) ≤ depth + 1
    go true b = omega arith
    go false true = omega arith
    go false false = omega arith

module _ (test : Before → List Symbol → Bool) (b : Before) where
  pub passed : (ts : List Symbol) → no_more ts ≡ false → test b ts ≡ false → first_from test b ts ≡ first_from test (after b ts) (behind ts)
  passed [] e f = absurd cc
  passed (t ∷ ts) e f = ap (λ (z : Bool). cond z (Some t.left) (first_from test (after b (t ∷ ts)) ts)) f

  pub stopped : (ts : List Symbol) → no_more ts ≡ false → test b ts ≡ true → first_from test b ts ≡ Some (left_of ts)
  stopped [] e f = absurd cc
  stopped (t ∷ ts) e f = ap (λ (z : Bool). cond z (Some t.left) (first_from test (after b (t ∷ ts)) ts)) f

  -- a symbol that is passed
  pub moved : (ts : List Symbol) (b2 : Before) (ts2 : List Symbol) → no_more ts ≡ false → test b ts ≡ false → b2 ≡ after b ts → ts2 ≡ behind ts → first_from test b ts ≡ first_from test b2 ts2
  moved ts b2 ts2 e f p q = passed ts e f ∙ ap (λ (x : Before). first_from test x (behind ts)) (sym p) ∙ ap (λ (x : List Symbol). first_from test b2 x) (sym q)

  pub ended : (ts : List Symbol) → no_more ts ≡ true → first_from test b ts ≡ None
  ended [] e = refl
  ended (t ∷ ts) e = absurd cc

-- there is room for a count of parentheses
pub room_starts : (b : Before) (ts : List Symbol) (bytes : List ℕ) → b ≡ nothing → ts ≡ symbols_of bytes → length bytes < 2 ^ 32 → b.depth + length ts < 2 ^ 32
room_starts b ts bytes e f small =
    let none : b.depth ≡ 0 = ap (λ (x : Before). x.depth) e in
    let same : length ts ≡ length (symbols_of bytes) = ap length f in
    omega (arith, none, same, few_symbols bytes, small)

pub room_goes_on : (b : Before) (ts : List Symbol) (b2 : Before) (ts2 : List Symbol) → no_more ts ≡ false → b2 ≡ after b ts → ts2 ≡ behind ts → b.depth + length ts < 2 ^ 32 → b2.depth + length ts2 < 2 ^ 32
room_goes_on b ts b2 ts2 e p q room =
    let deep : b2.depth ≡ depth_after b.depth (next_sort ts) = ap (λ (x : Before). x.depth) p in
    let same : length ts2 ≡ length (behind ts) = ap length q in
    omega (arith, deep, same, depth_grows b.depth (next_sort ts), behind_less ts e, room)

pub within_starts : (b : Before) (ts : List Symbol) (bytes : List ℕ) → b ≡ nothing → ts ≡ symbols_of bytes → bad_within bytes ≡ is_some (first_from is_bad b ts)
unfolding bad_within
within_starts b ts bytes e f = ap (λ (x : Before). is_some (first_from is_bad x (symbols_of bytes))) (sym e) ∙ ap (λ (x : List Symbol). is_some (first_from is_bad b x)) (sym f)

pub line_starts : (b : Before) (ts : List Symbol) (line : List ℕ) → b ≡ nothing → ts ≡ symbols_of line → bad_literal line ≡ first_from is_bad_in_line b ts
unfolding bad_literal
line_starts b ts line e f = ap (λ (x : Before). first_from is_bad_in_line x (symbols_of line)) (sym e) ∙ ap (λ (x : List Symbol). first_from is_bad_in_line b x) (sym f)

-- what a number that was looked for says of its size
pub great_some : (n m : ℕ) → Some n ≡ cond (leb m greatest) (Some m) no_number → false ≡ not (leb m greatest)
great_some n m e = go (leb m greatest) e
  where
    go : (z : Bool) → Some n ≡ cond z (Some m) no_number → false ≡ not z
    go true e = refl
    go false e = absurd cc

pub great_none : (m : ℕ) → no_number ≡ cond (leb m greatest) (Some m) no_number → true ≡ not (leb m greatest)
great_none m e = go (leb m greatest) e
  where
    go : (z : Bool) → no_number ≡ cond z (Some m) no_number → true ≡ not z
    go true e = absurd cc
    go false e = refl

not_zero : (n : ℕ) → (suc n == 0) ≡ false
not_zero n = go (suc n == 0) refl
  where
    go : (z : Bool) → (suc n == 0) ≡ z → z ≡ false
    go true e = absurd (omega (arith, eqb-true (suc n) 0 e))
    go false e = refl

pub no_size_is : (m : ℕ) → (cond (nat_le 1 m && nat_le m 2000) m 0 == 0) ≡ not (nat_le 1 m && nat_le m 2000)
no_size_is zero = refl
no_size_is (suc n) = go (nat_le 1 (suc n) && nat_le (suc n) 2000)
  where
    go : (z : Bool) → (cond z (suc n) 0 == 0) ≡ not z
    go true = not_zero n
    go false = refl
