-- The symbols of a line are those of its tokens.
use Rattle.std.proofs.Common.{zero-add, ◌≡◌, ℕ, zero, suc, ◌+◌, ◌-◌, ◌≤◌, false, List, [], ◌∷◌, ◌++◌, length, take, drop, map, refl, sym, ap, subst, ◌∙◌, arith, append_assoc}
use Rattle.std.proofs.Math.Nat.{le_refl}
use Rattle.std.proofs.Math.Seq.{drop-append_seam}
use Rattle.std.proofs.lemmas.List.{length-append}
use Rattle.wm_lexer.specs.declared.token.Token.{Token}
use Rattle.wm_lexer.specs.Scanning.{is_blank, skipped, token_from}
use Rattle.wm_lexer.specs.Tokens.{AreTokens}
use Rattle.wm_lexer.proofs.Longest.{here, some_byte}
use Rattle.wm_lexer.proofs.Line.{skips, skipped_head, begin_blanks, begin_token, drop_here}
use Rattle.wm_grammar.specs.Symbols.{Symbol}
use Rattle.wm_grammar.specs.Words.{sort_of}
use Rattle.wm_grammar.specs.Scanned.{scanned, symbols_of, symbol_from, symbol_of}
use Rattle.wm_grammar.proofs.Scans.{scanned_none, scanned_one}
use Rattle.wm_parser.specs.Tokens.{AreOfTokens}

-- tokens of the rest of a line, which begins at a place
record Goes (line rest : List ℕ) (place : ℕ) : Type 0 where
  tokens : List Token
  are : AreTokens place rest tokens
  same : scanned rest ≡ map (symbol_of line) tokens

-- the symbol of the token that stands behind the front
front_symbol : (line front : List ℕ) (b : ℕ) (bs : List ℕ) (t : Token) → line ≡ front ++ b ∷ bs → t.kind ≡ (token_from b bs).0 → t.from ≡ length front → t.till ≡ t.from + (token_from b bs).1 → symbol_from b bs ≡ symbol_of line t
front_symbol line front b bs t is kind from till =
    let behind : drop t.from line ≡ b ∷ bs = ap (λ (n : ℕ). drop n line) from ∙ ap (λ (x : List ℕ). drop (length front) x) is ∙ drop-append_seam front (b ∷ bs) in
    let size : t.till - t.from ≡ (token_from b bs).1 = omega (arith, till) in
    let word : take (t.till - t.from) (drop t.from line) ≡ take (token_from b bs).1 (b ∷ bs) = ap (λ (n : ℕ). take n (drop t.from line)) size ∙ ap (λ (x : List ℕ). take (token_from b bs).1 x) behind in
    let left : length line - t.from ≡ length (b ∷ bs) = omega (arith, ap length is, length-append front (b ∷ bs), from) in
    sym (λ i. record { sort = sort_of (kind i) (word i); text = word i; left = left i })

goes : (n : ℕ) (line front rest : List ℕ) → line ≡ front ++ rest → ((b : ℕ) (bs : List ℕ) → rest ≡ b ∷ bs → is_blank b ≡ false) → length rest ≤ n → Goes line rest (length front)
goes n line front [] is starts few = record { tokens = []; are = refl; same = scanned_none }
goes zero line front (b ∷ bs) is starts few = absurd (omega (arith, few))
goes (suc n) line front (b ∷ bs) is starts few =
    let blank = starts b bs refl in
    let h = here b bs blank in
    let s = skips h.rest in
    let t : Token = record { kind = (token_from b bs).0; from = length front; till = length front + (token_from b bs).1 } in
    let next : List ℕ = front ++ (h.word ++ s.blanks) in
    let splits : line ≡ next ++ skipped h.rest =
    is ∙ ap (λ (x : List ℕ). front ++ x) (h.is ∙ ap (λ (x : List ℕ). h.word ++ x) s.is ∙ sym (append_assoc h.word s.blanks (skipped h.rest))) ∙ sym (append_assoc front (h.word ++ s.blanks) (skipped h.rest)) in
    let fewer : length (skipped h.rest) ≤ n = omega (arith, few, some_byte b bs, h.size, ap length h.is, length-append h.word h.rest, ap length s.is, length-append s.blanks (skipped h.rest)) in
    let g = goes n line next (skipped h.rest) splits (λ c cs e. skipped_head h.rest c cs e) fewer in
    let place : length next ≡ t.till + length s.blanks = omega (arith, length-append front (h.word ++ s.blanks), length-append h.word s.blanks, h.size) in
    let tail : AreTokens (t.till + length s.blanks) (skipped h.rest) g.tokens = subst (λ (p : ℕ). AreTokens p (skipped h.rest) g.tokens) place g.are in
    let others : AreTokens t.till h.rest g.tokens = subst (λ (x : List ℕ). AreTokens t.till x g.tokens) (sym s.is) (begin_blanks g.tokens t.till s.blanks (skipped h.rest) s.pass tail) in
    let behind : drop (token_from b bs).1 (b ∷ bs) ≡ h.rest = drop_here b bs (token_from b bs).0 (token_from b bs).1 h in
    let first : symbol_from b bs ≡ symbol_of line t = front_symbol line front b bs t is refl refl refl in
    record {
      tokens = t ∷ g.tokens;
      are = begin_token t g.tokens b bs blank refl refl (subst (λ (x : List ℕ). AreTokens t.till x g.tokens) (sym behind) others);
      same = scanned_one b bs ∙ ap (λ (x : List ℕ). symbol_from b bs ∷ scanned (skipped x)) behind ∙ ap (λ (x : List Symbol). symbol_from b bs ∷ x) g.same ∙ ap (λ (x : Symbol). x ∷ map (symbol_of line) g.tokens) first;
    }

-- the symbols of a line are those of its tokens, each the longest at its place
pub symbols_are : (line : List ℕ) → AreOfTokens line (symbols_of line)
symbols_are line =
    let s = skips line in
    let g = goes (length (skipped line)) line s.blanks (skipped line) s.is (λ c cs e. skipped_head line c cs e) (le_refl (length (skipped line))) in
    (g.tokens, subst (λ (x : List ℕ). AreTokens 0 x g.tokens) (sym s.is) (begin_blanks g.tokens 0 s.blanks (skipped line) s.pass (subst (λ (p : ℕ). AreTokens p (skipped line) g.tokens) (sym (zero-add (length s.blanks))) g.are)), g.same)
