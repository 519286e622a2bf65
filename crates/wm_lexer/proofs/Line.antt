-- Tokens one after the other.
use Rattle.std.proofs.Common.{◌≡◌, ℕ, ◌+◌, ◌-◌, ◌≤◌, Bool, true, false, cond, List, [], ◌∷◌, ◌++◌, length, drop, refl, sym, ap, subst, ◌∙◌, arith, append_assoc}
use Rattle.std.specs.Prelude.{◌&&◌}
use Rattle.std.proofs.lemmas.List.{append-nil, length-append, length-drop}
use Rattle.std.proofs.lemmas.Bool.{and_parts}
use Rattle.wm_lexer.specs.declared.token.TokenKind.{TokenKind}
use Rattle.wm_lexer.specs.declared.token.Token.{Token}
use Rattle.wm_lexer.specs.Scanning.{is_blank, skipped, token_from}
use Rattle.wm_lexer.specs.Tokens.{all_pass, IsNext, AreTokens}
use Rattle.wm_lexer.proofs.Longest.{Here, here}

-- ---- blanks

pub record Skips (bs : List ℕ) : Type 0 where
  pub blanks : List ℕ
  pub is : bs ≡ blanks ++ skipped bs
  pub pass : all_pass is_blank blanks ≡ true

pub skips : (bs : List ℕ) → Skips bs
skips [] = record { blanks = []; is = refl; pass = refl }
skips (b ∷ bs) = go (is_blank b) refl (skips bs)
  where
    go : (z : Bool) → is_blank b ≡ z → Skips bs → Skips (b ∷ bs)
    go true e s = record {
      blanks = b ∷ s.blanks;
      is = ap (λ (x : List ℕ). b ∷ x) s.is ∙ ap (λ (z : Bool). b ∷ s.blanks ++ cond z (skipped bs) (b ∷ bs)) (sym e);
      pass = ap (λ (z : Bool). z && all_pass is_blank s.blanks) e ∙ s.pass;
    }
    go false e s = record { blanks = []; is = ap (λ (z : Bool). cond z (skipped bs) (b ∷ bs)) (sym e); pass = refl }

pub skipped_head : (bs : List ℕ) (b : ℕ) (cs : List ℕ) → skipped bs ≡ b ∷ cs → is_blank b ≡ false
skipped_head [] b cs e = absurd cc
skipped_head (c ∷ bs) b cs e = go (is_blank c) refl e (λ k. skipped_head bs b cs k)
  where
    go : (z : Bool) → is_blank c ≡ z → cond z (skipped bs) (c ∷ bs) ≡ b ∷ cs → (skipped bs ≡ b ∷ cs → is_blank b ≡ false) → is_blank b ≡ false
    go true e k rec = rec k
    go false e k rec = let same : c ≡ b = cc in sym (ap is_blank same) ∙ e

all_pass-append : (xs ys : List ℕ) → all_pass is_blank xs ≡ true → all_pass is_blank ys ≡ true → all_pass is_blank (xs ++ ys) ≡ true
all_pass-append [] ys p q = q
all_pass-append (x ∷ xs) ys p q =
    let w = and_parts (is_blank x) (all_pass is_blank xs) p in
    rw (w.0) (all_pass-append xs ys w.1 q)

-- blanks before the tokens
pub begin_blanks : (ts : List Token) (place : ℕ) (blanks bs : List ℕ) → all_pass is_blank blanks ≡ true → AreTokens (place + length blanks) bs ts → AreTokens place (blanks ++ bs) ts
begin_blanks [] place blanks bs p t = all_pass-append blanks bs p t
begin_blanks (t ∷ ts) place blanks bs p (more, word, rest, is, pass, from, till, next, others) =
    (blanks ++ more, word, rest, ap (λ (x : List ℕ). blanks ++ x) is ∙ sym (append_assoc blanks more (word ++ rest)), all_pass-append blanks more p pass, omega (arith, from, length-append blanks more), till, next, others)

-- ---- one token

drop_word : (w r : List ℕ) → drop (length w) (w ++ r) ≡ r
drop_word [] r = refl
drop_word (b ∷ w) r = drop_word w r

pub drop_here : (b : ℕ) (bs : List ℕ) (kind : TokenKind) (n : ℕ) (h : Here b bs kind n) → drop n (b ∷ bs) ≡ h.rest
drop_here b bs kind n h = ap (λ (x : List ℕ). drop n x) h.is ∙ ap (λ (k : ℕ). drop k (h.word ++ h.rest)) (sym h.size) ∙ drop_word h.word h.rest

pub begin_token : (t : Token) (ts : List Token) (b : ℕ) (bs : List ℕ) → is_blank b ≡ false → t.kind ≡ (token_from b bs).0 → t.till ≡ t.from + (token_from b bs).1
    → AreTokens t.till (drop (token_from b bs).1 (b ∷ bs)) ts → AreTokens t.from (b ∷ bs) (t ∷ ts)
begin_token t ts b bs blank kind till others =
    let h = here b bs blank in (
      [],
      h.word,
      h.rest,
      h.is,
      refl,
      omega arith,
      omega (arith, till, h.size),
      subst (λ (k : TokenKind). IsNext k h.word h.rest) (sym kind) h.next,
      subst (λ (x : List ℕ). AreTokens t.till x ts) (drop_here b bs (token_from b bs).0 (token_from b bs).1 h) others,
    )

pub fits_here : (b : ℕ) (bs : List ℕ) → is_blank b ≡ false → (token_from b bs).1 ≤ length (b ∷ bs)
fits_here b bs blank = let h = here b bs blank in omega (arith, h.size, ap length h.is, length-append h.word h.rest)

-- ---- the loop over a line

-- the tokens found and the tokens of the rest are those of the line
pub record Lexes (line : List ℕ) (tokens : List Token) (rest : List ℕ) : Type 0 where
  pub fits : length rest ≤ length line
  pub starts : (b : ℕ) (bs : List ℕ) → rest ≡ b ∷ bs → is_blank b ≡ false
  pub goes_on : (ts : List Token) → AreTokens (length line - length rest) rest ts → AreTokens 0 line (tokens ++ ts)

pub lex_starts : (line : List ℕ) → Lexes line [] (skipped line)
lex_starts line =
    let s = skips line in
    record {
      fits = omega (arith, ap length s.is, length-append s.blanks (skipped line));
      starts = λ b bs e. skipped_head line b bs e;
      goes_on = λ ts a.
          subst (λ (x : List ℕ). AreTokens 0 x ts) (sym s.is)
          (begin_blanks ts 0 s.blanks (skipped line) s.pass (subst (λ (n : ℕ). AreTokens n (skipped line) ts) (omega (arith, ap length s.is, length-append s.blanks (skipped line))) a));
    }

pub lex_goes_on : (line : List ℕ) (tokens : List Token) (b : ℕ) (bs : List ℕ) (t : Token) → Lexes line tokens (b ∷ bs) → t.kind ≡ (token_from b bs).0 → t.from ≡ length line - length (b ∷ bs) → t.till ≡ t.from + (token_from b bs).1
    → Lexes line (tokens ++ t ∷ []) (skipped (drop (token_from b bs).1 (b ∷ bs)))
lex_goes_on line tokens b bs t l kind from till =
    let after = drop (token_from b bs).1 (b ∷ bs) in
    let s = skips after in
    let blank = l.starts b bs refl in
    let fits = fits_here b bs blank in
    let size : length after ≡ length (b ∷ bs) - (token_from b bs).1 = length-drop (token_from b bs).1 (b ∷ bs) in
    let skip : length after ≡ length s.blanks + length (skipped after) = ap length s.is ∙ length-append s.blanks (skipped after) in
    record {
      fits = omega (arith, l.fits, size, skip);
      starts = λ c cs e. skipped_head after c cs e;
      goes_on = λ ts a.
          let place : length line - length (skipped after) ≡ t.till + length s.blanks = omega (arith, l.fits, size, skip, fits, from, till) in
          let rest : AreTokens t.till after ts = subst (λ (x : List ℕ). AreTokens t.till x ts) (sym s.is) (begin_blanks ts t.till s.blanks (skipped after) s.pass (subst (λ (n : ℕ). AreTokens n (skipped after) ts) place a)) in
          let whole = begin_token t ts b bs blank kind till rest in
          subst (λ (x : List Token). AreTokens 0 line x) (sym (append_assoc tokens (t ∷ []) ts)) (l.goes_on (t ∷ ts) (subst (λ (n : ℕ). AreTokens n (b ∷ bs) (t ∷ ts)) from whole));
    }

pub lex_ends : (line : List ℕ) (tokens : List Token) → Lexes line tokens [] → AreTokens 0 line tokens
lex_ends line tokens l = subst (λ (x : List Token). AreTokens 0 line x) (append-nil tokens) (l.goes_on [] refl)

-- an iteration: the token at the front is kept, and it and the blanks behind it are passed
pub lex_step : (line : List ℕ) (tokens : List Token) (rest : List ℕ) (b : ℕ) (bs : List ℕ) (found : TokenKind × ℕ) (more : List Token) (after : List ℕ) → Lexes line tokens rest → rest ≡ b ∷ bs → found ≡ token_from b bs
    → more ≡ tokens ++ record { kind = found.0; from = length line - length rest; till = length line - length rest + found.1 } ∷ [] → after ≡ skipped (drop found.1 rest) → Lexes line more after
lex_step line tokens rest b bs found more after l is from_is more_is after_is =
    let kind : found.0 ≡ (token_from b bs).0 = ap (λ (t : TokenKind × ℕ). t.0) from_is in
    let n : found.1 ≡ (token_from b bs).1 = ap (λ (t : TokenKind × ℕ). t.1) from_is in
    let kept : Lexes line tokens (b ∷ bs) = subst (Lexes line tokens) is l in
    let t : Token = record { kind = found.0; from = length line - length rest; till = length line - length rest + found.1 } in
    let stepped : Lexes line (tokens ++ t ∷ []) (skipped (drop (token_from b bs).1 (b ∷ bs))) = lex_goes_on line tokens b bs t kept kind (ap (λ (x : List ℕ). length line - length x) is) (omega (arith, n)) in
    let where_next : after ≡ skipped (drop (token_from b bs).1 (b ∷ bs)) = after_is ∙ ap (λ (x : List ℕ). skipped (drop found.1 x)) is ∙ ap (λ (k : ℕ). skipped (drop k (b ∷ bs))) n in
    subst (λ (x : List Token). Lexes line x after) (sym more_is) (subst (Lexes line (tokens ++ t ∷ [])) (sym where_next) stepped)

pub lex_done : (line : List ℕ) (tokens : List Token) (rest : List ℕ) → Lexes line tokens rest → length rest ≡ 0 → AreTokens 0 line tokens
lex_done line tokens [] l e = lex_ends line tokens l
lex_done line tokens (b ∷ bs) l e = absurd (omega arith)
