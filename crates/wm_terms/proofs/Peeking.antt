-- What the token at the front says of the first symbol.
use Rattle.std.proofs.Common.{◌≡◌, ◌≢◌, ℕ, suc, ◌<◌, ◌≤◌, map, get_or, Bool, true, false, List, [], ◌∷◌, length, take, drop, refl, sym, ap, ◌∙◌, arith}
use Rattle.std.specs.Prelude.{◌==◌, ◌||◌}
use Rattle.std.proofs.lemmas.Bool.{eqb-true, eq-eqb}
use Rattle.std.proofs.Math.Seq.{drop-cons}
use Rattle.std.proofs.lemmas.List.{drop_all}
use Rattle.std.proofs.Math.Bool.{or-false}
use Rattle.wm_grammar.specs.Sorts.{code_of}
use Rattle.wm_grammar.specs.declared.sort.Sort.{Sort}
use Rattle.wm_lexer.specs.Scanning.{skipped, token_from}
use Rattle.wm_lexer.proofs.Longest.{some_byte}
use Rattle.wm_grammar.specs.Symbols.{Symbol, left_of, has, next_in}
use Rattle.wm_grammar.specs.Scanned.{symbol_from, scanned}
use Rattle.wm_grammar.proofs.Scans.{scanned_none, scanned_one}
use Rattle.wm_grammar.specs.Next.{next_sort, next_text, behind, no_more}
use Rattle.wm_terms.specs.Cursor.{Peeks}

pub left_is : (rest : List ℕ) → length rest ≡ left_of (scanned rest)
left_is [] = sym (ap left_of scanned_none)
left_is (b ∷ bs) = sym (ap left_of (scanned_one b bs))

not_end : (s : ℕ) → s ≢ 77 → (77 == s) ≡ false
not_end s ne = go (77 == s) refl
  where
    go : (z : Bool) → (77 == s) ≡ z → z ≡ false
    go true e = absurd (ne (sym (eqb-true 77 s e)))
    go false e = refl

pub next_is : (rest : List ℕ) (code size s : ℕ) → Peeks rest code size → s ≢ 77 → (code == s) ≡ next_in (s ∷ []) (scanned rest)
next_is [] code size s p ne = ap (λ (n : ℕ). n == s) p.0 ∙ not_end s ne ∙ sym (ap (next_in (s ∷ [])) scanned_none)
next_is (b ∷ bs) code size s p ne = ap (λ (n : ℕ). n == s) p.0 ∙ sym (or-false ((symbol_from b bs).sort == s)) ∙ sym (ap (next_in (s ∷ [])) (scanned_one b bs))

pub word_is : (rest : List ℕ) (code size : ℕ) → Peeks rest code size → take size rest ≡ next_text (scanned rest)
word_is [] code size p = ap (λ (n : ℕ). take n []) p.1 ∙ sym (ap next_text scanned_none)
word_is (b ∷ bs) code size p = ap (λ (n : ℕ). take n (b ∷ bs)) p.1 ∙ sym (ap next_text (scanned_one b bs))

pub behind_is : (rest : List ℕ) (code size : ℕ) → Peeks rest code size → scanned (skipped (drop size rest)) ≡ behind (scanned rest)
behind_is [] code size p = ap (λ (n : ℕ). scanned (skipped (drop n []))) p.1 ∙ scanned_none ∙ sym (ap behind scanned_none)
behind_is (b ∷ bs) code size p = ap (λ (n : ℕ). scanned (skipped (drop n (b ∷ bs)))) p.1 ∙ sym (ap behind (scanned_one b bs))

pub next_among : (rest : List ℕ) (code size : ℕ) (cs : List ℕ) → Peeks rest code size → has cs 77 ≡ false → has cs code ≡ next_in cs (scanned rest)
next_among [] code size cs p ne = ap (has cs) p.0 ∙ ne ∙ sym (ap (next_in cs) scanned_none)
next_among (b ∷ bs) code size cs p ne = ap (has cs) p.0 ∙ sym (ap (next_in cs) (scanned_one b bs))

among_all : (sorts : List Sort) (d : Sort) (i code : ℕ) → i < length sorts → code ≡ code_of (get_or sorts i d) → has (map code_of (drop i sorts)) code ≡ true
among_all sorts d i code lt e =
    ap (λ (x : List Sort). has (map code_of x) code) (drop-cons sorts i d lt) ∙ first (code_of (get_or sorts i d)) (has (map code_of (drop (suc i) sorts)) code) e
  where
    first : (n : ℕ) (z : Bool) → code ≡ n → ((code == n) || z) ≡ true
    first n z e = rw (eq-eqb code n e) refl

-- the sort is the i-th of those that are looked for
pub found_among : (rest : List ℕ) (next size : ℕ) (sorts : List Sort) (d : Sort) (i code : ℕ) (ts : List Symbol) → Peeks rest next size → scanned rest ≡ ts → has (map code_of sorts) 77 ≡ false → has (map code_of sorts) next ≡ has (map code_of (drop i sorts)) next
    → i < length sorts → next ≡ code → code ≡ code_of (get_or sorts i d) → true ≡ next_in (map code_of sorts) ts
found_among rest next size sorts d i code ts p view ne same lt e k =
    sym (among_all sorts d i next lt (e ∙ k)) ∙ sym same ∙ next_among rest next size (map code_of sorts) p ne ∙ ap (next_in (map code_of sorts)) view

pub none_among : (rest : List ℕ) (next size : ℕ) (sorts : List Sort) (i : ℕ) (ts : List Symbol) → Peeks rest next size → scanned rest ≡ ts → has (map code_of sorts) 77 ≡ false → has (map code_of sorts) next ≡ has (map code_of (drop i sorts)) next
    → length sorts ≤ i → false ≡ next_in (map code_of sorts) ts
none_among rest next size sorts i ts p view ne same le =
    sym (ap (λ (x : List Sort). has (map code_of x) next) (drop_all i sorts le)) ∙ sym same ∙ next_among rest next size (map code_of sorts) p ne ∙ ap (next_in (map code_of sorts)) view

no_byte : (n : ℕ) → 1 ≤ n → (n == 0) ≡ false
no_byte n le = go (n == 0) refl
  where
    go : (z : Bool) → (n == 0) ≡ z → z ≡ false
    go true e = absurd (omega (arith, eqb-true n 0 e))
    go false e = refl

pub end_is : (rest : List ℕ) (code size : ℕ) → Peeks rest code size → (size == 0) ≡ no_more (scanned rest)
end_is [] code size p = ap (λ (n : ℕ). n == 0) p.1 ∙ sym (ap no_more scanned_none)
end_is (b ∷ bs) code size p = ap (λ (n : ℕ). n == 0) p.1 ∙ no_byte (token_from b bs).1 (some_byte b bs) ∙ sym (ap no_more (scanned_one b bs))

pub sort_is : (rest : List ℕ) (code size : ℕ) → Peeks rest code size → code ≡ next_sort (scanned rest)
sort_is [] code size p = p.0 ∙ sym (ap next_sort scanned_none)
sort_is (b ∷ bs) code size p = p.0 ∙ sym (ap next_sort (scanned_one b bs))
