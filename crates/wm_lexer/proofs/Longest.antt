-- The token that is found at the front of the bytes is the longest one there.
use Rattle.std.proofs.Common.{◌≡◌, ◌≢◌, ℕ, zero, suc, ◌+◌, ◌≤◌, ◌<◌, Bool, true, false, cond, List, [], ◌∷◌, ◌++◌, length, Option, Some, None, refl, sym, ap, subst, ◌∙◌, inl, inr, arith}
use Rattle.std.specs.Prelude.{◌⊎◌, ◌||◌, ◌==◌, not, take_while, codes}
use Rattle.std.specs.Char.{is_ascii_alphabetic, is_ascii_digit}
use Rattle.std.proofs.Math.Nat.{le_refl}
use Rattle.std.proofs.lemmas.Bool.{eqb-true, and_parts, or_cases}
use Rattle.std.proofs.lemmas.Bool.Decides.{nat_tests}
use Rattle.std.proofs.lemmas.List.{append-nil}
use Rattle.std.proofs.lemmas.List.Sums.{take_while-cons}
use Rattle.wm_lexer.specs.declared.token.TokenKind.{TokenKind}
use Rattle.wm_lexer.specs.declared.token.TokenKind.TheVariants.{Id, Int, Text, Mark, Bad}
use Rattle.wm_lexer.specs.Scanning.{is_blank, is_word_byte, has_byte, is_single, next_is, mark_len, plus, text_rest, text_len, quoted, marked, token_from}
use Rattle.wm_lexer.specs.Tokens.{all_pass, IsId, IsInt, NoQuote, Quoted, IsText, Among, marks, IsToken, IsBad, IsOne, IsNext}

-- ---- tests

letter_no_digit : (b : ℕ) → is_ascii_alphabetic b ≡ true → is_ascii_digit b ≡ true → ⊥
letter_no_digit b p q = grind (arith, nat_tests)

-- the bytes that begin a mark
abbrev mark_heads : List ℕ
mark_heads = 40 ∷ 41 ∷ 44 ∷ 46 ∷ 58 ∷ 59 ∷ 42 ∷ 43 ∷ 45 ∷ 61 ∷ 60 ∷ 33 ∷ 62 ∷ []

abbrev In : List ℕ → ℕ → Type 0
In [] b = ⊥
In (x ∷ xs) b = (b ≡ x) ⊎ In xs b

none_pass : (p : ℕ → Bool) (xs : List ℕ) (b : ℕ) → all_pass (λ x. not (p x)) xs ≡ true → In xs b → p b ≡ true → ⊥
none_pass p [] b a i h = i
none_pass p (x ∷ xs) b a i h =
    let w = and_parts (not (p x)) (all_pass (λ x. not (p x)) xs) a in
    elim i [
      | inl e ↦ let k : p x ≡ true = sym (ap p e) ∙ h in contra (p x) w.0 k
      | inr e ↦ none_pass p xs b w.1 e h
    ]
  where
    contra : (z : Bool) → not z ≡ true → z ≡ true → ⊥
    contra true q k = cc
    contra false q k = cc

-- ---- the bytes at the front that pass a test

abbrev front : (ℕ → Bool) → List ℕ → List ℕ
front p [] = []
front p (b ∷ bs) = cond (p b) (b ∷ front p bs) []

abbrev behind : (ℕ → Bool) → List ℕ → List ℕ
behind p [] = []
behind p (b ∷ bs) = cond (p b) (behind p bs) (b ∷ bs)

front_is_while : (p : ℕ → Bool) (bs : List ℕ) → take_while p bs ≡ front p bs
front_is_while p [] = refl
front_is_while p (b ∷ bs) = take_while-cons p b bs ∙ ap (λ (x : List ℕ). cond (p b) (b ∷ x) []) (front_is_while p bs)

front_is : (p : ℕ → Bool) (bs : List ℕ) → bs ≡ front p bs ++ behind p bs
front_is p [] = refl
front_is p (b ∷ bs) = go (p b) (front_is p bs)
  where
    go : (z : Bool) → bs ≡ front p bs ++ behind p bs → b ∷ bs ≡ cond z (b ∷ front p bs) [] ++ cond z (behind p bs) (b ∷ bs)
    go true rec = ap (λ (x : List ℕ). b ∷ x) rec
    go false rec = refl

front_passes : (p : ℕ → Bool) (bs : List ℕ) → all_pass p (front p bs) ≡ true
front_passes p [] = refl
front_passes p (b ∷ bs) = go (p b) refl (front_passes p bs)
  where
    go : (z : Bool) → p b ≡ z → all_pass p (front p bs) ≡ true → all_pass p (cond z (b ∷ front p bs) []) ≡ true
    go true e rec = rw (e, rec) refl
    go false e rec = refl

front_longest : (p : ℕ → Bool) (us v bs : List ℕ) → us ++ v ≡ bs → all_pass p us ≡ true → length us ≤ length (front p bs)
front_longest p [] v bs e a = omega arith
front_longest p (c ∷ us) v [] e a = absurd cc
front_longest p (c ∷ us) v (b ∷ bs) e a =
    let w = and_parts (p c) (all_pass p us) a in
    let head : c ≡ b = cc in
    let tail : us ++ v ≡ bs = cc in
    let passes : p b ≡ true = sym (ap p head) ∙ w.0 in
    let rec : length us ≤ length (front p bs) = front_longest p us v bs tail w.1 in
    rw passes (omega arith)

-- ---- what begins a token

abbrev Begun : TokenKind → ℕ → Type 0
Begun Id b = is_ascii_alphabetic b ≡ true
Begun Int b = is_ascii_digit b ≡ true
Begun Text b = b ≡ 39
Begun Mark b = In mark_heads b
Begun Bad b = ⊥

abbrev HeadsIn : List (List ℕ) → Type 0
HeadsIn [] = Unit {0}
HeadsIn ([] ∷ ws) = ⊥
HeadsIn ((x ∷ w) ∷ ws) = In mark_heads x × HeadsIn ws

mark_head : (ws : List (List ℕ)) (u : List ℕ) → HeadsIn ws → Among ws u → (b : ℕ) × (us : List ℕ) × (u ≡ b ∷ us) × In mark_heads b
mark_head [] u h m = absurd m
mark_head ([] ∷ ws) u h m = absurd h
mark_head ((x ∷ w) ∷ ws) u h m =
    elim m [
      | inl e ↦ (x, w, e, h.0)
      | inr n ↦ mark_head ws u h.1 n
    ]

marks_heads : HeadsIn marks
marks_heads = search (inl, inr, tt) depth 30

head_of : (k : TokenKind) (u v : List ℕ) → IsToken k u v → (b : ℕ) × (us : List ℕ) × (u ≡ b ∷ us) × Begun k b
head_of Id [] v t = absurd t
head_of Id (b ∷ us) v t = (b, us, refl, t.0)
head_of Int [] v t = absurd t
head_of Int (b ∷ us) v t = (b, us, refl, (and_parts (is_ascii_digit b) (all_pass is_ascii_digit us) t).0)
head_of Text [] v t = absurd t
head_of Text (b ∷ us) v t = (b, us, refl, t.0)
head_of Mark u v t = mark_head marks u marks_heads t
head_of Bad u v t = absurd t

-- a token that begins as the bytes do
starts : (k : TokenKind) (u v : List ℕ) (b : ℕ) (bs : List ℕ) → b ∷ bs ≡ u ++ v → IsToken k u v → (us : List ℕ) × (u ≡ b ∷ us) × (bs ≡ us ++ v) × Begun k b
starts k u v b bs e t =
    let h = head_of k u v t in
    let whole : b ∷ bs ≡ (h.0 ∷ h.1) ++ v = e ∙ ap (λ (z : List ℕ). z ++ v) h.2 in
    let same : b ≡ h.0 = cc in
    let rest : bs ≡ h.1 ++ v = cc in
    (h.1, h.2 ∙ ap (λ (z : ℕ). z ∷ h.1) (sym same), rest, subst (λ (z : ℕ). Begun k z) (sym same) h.3)

-- ---- no byte begins tokens of two kinds

letter_no_quote : (b : ℕ) → is_ascii_alphabetic b ≡ true → b ≡ 39 → ⊥
letter_no_quote b h e = let k : is_ascii_alphabetic b ≡ false = ap is_ascii_alphabetic e in cc

digit_no_quote : (b : ℕ) → is_ascii_digit b ≡ true → b ≡ 39 → ⊥
digit_no_quote b h e = let k : is_ascii_digit b ≡ false = ap is_ascii_digit e in cc

letter_no_mark : (b : ℕ) → is_ascii_alphabetic b ≡ true → In mark_heads b → ⊥
letter_no_mark b h i = none_pass is_ascii_alphabetic mark_heads b refl i h

digit_no_mark : (b : ℕ) → is_ascii_digit b ≡ true → In mark_heads b → ⊥
digit_no_mark b h i = none_pass is_ascii_digit mark_heads b refl i h

quote_no_mark : (b : ℕ) → b ≡ 39 → In mark_heads b → ⊥
quote_no_mark b e i = none_pass (λ x. x == 39) mark_heads b refl i (ap (λ (x : ℕ). x == 39) e)

-- ---- texts

plus_some : (n : ℕ) (o : Option ℕ) (m : ℕ) → plus n o ≡ Some m → (k : ℕ) × (o ≡ Some k) × (m ≡ n + k)
plus_some n None m e = absurd cc
plus_some n (Some k) m e = (k, refl, cc)

record TextSplit (before bs : List ℕ) (n : ℕ) : Type 0 where
  word : List ℕ
  rest : List ℕ
  is : bs ≡ word ++ rest
  size : length word ≡ n
  quotes : Quoted (before ++ word) rest

quoted_more : (b : ℕ) (w r : List ℕ) → b ≢ 39 → Quoted w r → Quoted (b ∷ w) r
quoted_more b [] r ne q = absurd q
quoted_more b (c ∷ w) r ne q = inr (ne, q)

not_quote : (b : ℕ) → (b == 39) ≡ false → b ≢ 39
not_quote b e k = let h : (b == 39) ≡ true = ap (λ (x : ℕ). x == 39) k in cc

open_by : (b : ℕ) (bs : List ℕ) (n : ℕ) (z : Bool) → (b == 39) ≡ z → cond z (plus 1 (text_rest true bs)) (plus 1 (text_rest false bs)) ≡ Some n
    → ((m : ℕ) → text_rest true bs ≡ Some m → TextSplit (39 ∷ []) bs m) → ((m : ℕ) → text_rest false bs ≡ Some m → TextSplit [] bs m) → TextSplit [] (b ∷ bs) n
open_by b bs n true t e quote open' =
    let p = plus_some 1 (text_rest true bs) n e in
    let s = quote p.0 p.1 in
    record {
      word = b ∷ s.word;
      rest = s.rest;
      is = ap (λ (x : List ℕ). b ∷ x) s.is;
      size = omega (arith, s.size, p.2);
      quotes = subst (λ (x : ℕ). Quoted (x ∷ s.word) s.rest) (sym (eqb-true b 39 t)) s.quotes;
    }
open_by b bs n false t e quote open' =
    let p = plus_some 1 (text_rest false bs) n e in
    let s = open' p.0 p.1 in
    record {
      word = b ∷ s.word;
      rest = s.rest;
      is = ap (λ (x : List ℕ). b ∷ x) s.is;
      size = omega (arith, s.size, p.2);
      quotes = quoted_more b s.word s.rest (not_quote b t) s.quotes;
    }

quote_by : (b : ℕ) (bs : List ℕ) (n : ℕ) (z : Bool) → (b == 39) ≡ z → cond z (plus 1 (text_rest false bs)) (Some 0) ≡ Some n
    → ((m : ℕ) → text_rest false bs ≡ Some m → TextSplit [] bs m) → TextSplit (39 ∷ []) (b ∷ bs) n
quote_by b bs n true t e open' =
    let p = plus_some 1 (text_rest false bs) n e in
    let s = open' p.0 p.1 in
    record {
      word = b ∷ s.word;
      rest = s.rest;
      is = ap (λ (x : List ℕ). b ∷ x) s.is;
      size = omega (arith, s.size, p.2);
      quotes = inl (refl, eqb-true b 39 t, s.quotes);
    }
quote_by b bs n false t e open' = record { word = []; rest = b ∷ bs; is = refl; size = cc; quotes = (refl, not_quote b t) }

mutual
  text_open : (bs : List ℕ) (n : ℕ) → text_rest false bs ≡ Some n → TextSplit [] bs n
  text_open [] n e = absurd cc
  text_open (b ∷ bs) n e = open_by b bs n (b == 39) refl e (λ m k. text_quote bs m k) (λ m k. text_open bs m k)

  text_quote : (bs : List ℕ) (n : ℕ) → text_rest true bs ≡ Some n → TextSplit (39 ∷ []) bs n
  text_quote [] n e = record { word = []; rest = []; is = refl; size = cc; quotes = (refl, tt) }
  text_quote (b ∷ bs) n e = quote_by b bs n (b == 39) refl e (λ m k. text_open bs m k)

-- what stands in quotes is read to its end
quoted_len : (w r : List ℕ) → Quoted w r → text_rest false (w ++ r) ≡ Some (length w)
quoted_len [] r q = absurd q
quoted_len (b ∷ []) r q = rw (q.0) (ends r q.1)
  where
    ends : (r : List ℕ) → NoQuote r → plus 1 (text_rest true r) ≡ Some 1
    ends [] n = refl
    ends (c ∷ r) n = go (c == 39) refl
      where
        go : (z : Bool) → (c == 39) ≡ z → plus 1 (cond z (plus 1 (text_rest false r)) (Some 0)) ≡ Some 1
        go true e = absurd (n (eqb-true c 39 e))
        go false e = refl
quoted_len (b ∷ c ∷ w) r q =
    elim q [
      | inl p ↦ two (p.0) (p.1) (quoted_len w r p.2)
      | inr p ↦ one (p.0) (quoted_len (c ∷ w) r p.1)
    ]
  where
    two : b ≡ 39 → c ≡ 39 → text_rest false (w ++ r) ≡ Some (length w) → text_rest false (b ∷ c ∷ (w ++ r)) ≡ Some (length (b ∷ c ∷ w))
    two e k rec = rw (e, k, rec) (ap (λ (n : ℕ). Some n) (omega arith))

    one : b ≢ 39 → text_rest false (c ∷ (w ++ r)) ≡ Some (length (c ∷ w)) → text_rest false (b ∷ c ∷ (w ++ r)) ≡ Some (length (b ∷ c ∷ w))
    one ne rec = go (b == 39) refl
      where
        go : (z : Bool) → (b == 39) ≡ z → cond z (plus 1 (text_rest true (c ∷ (w ++ r)))) (plus 1 (text_rest false (c ∷ (w ++ r)))) ≡ Some (length (b ∷ c ∷ w))
        go true e = absurd (ne (eqb-true b 39 e))
        go false e = ap (plus 1) rec ∙ ap (λ (n : ℕ). Some n) (omega arith)

-- ---- marks

abbrev Limited : List ℕ → List (List ℕ) → Type 0
Limited v [] = Unit {0}
Limited v ((b ∷ w) ∷ ws) = (length (b ∷ w) ≤ mark_len b (w ++ v)) × Limited v ws
Limited v ([] ∷ ws) = Limited v ws

one_or_two : (b : Bool) → 1 ≤ cond b 2 1
one_or_two true = omega arith
one_or_two false = omega arith

marks_limited : (v : List ℕ) → Limited v marks
marks_limited v = (
  le_refl 1,
  (
    le_refl 1,
    (
      le_refl 1,
      (
        le_refl 1,
        (
          le_refl 1,
          (
            le_refl 1,
            (
              le_refl 1,
              (
                le_refl 1,
                (
                  le_refl 1,
                  (
                    one_or_two (next_is 62 v),
                    (le_refl 2, (le_refl 2, (one_or_two (next_is 62 v || next_is 61 v), (le_refl 2, (one_or_two (next_is 61 v), (le_refl 2, (le_refl 2, tt))))))),
                  ),
                ),
              ),
            ),
          ),
        ),
      ),
    ),
  ),
)

mark_limit : (ws : List (List ℕ)) (b : ℕ) (us v : List ℕ) → Limited v ws → Among ws (b ∷ us) → length (b ∷ us) ≤ mark_len b (us ++ v)
mark_limit [] b us v l m = absurd m
mark_limit ([] ∷ ws) b us v l m = elim m [ inl e ↦ absurd cc | inr n ↦ mark_limit ws b us v l n ]
mark_limit ((c ∷ w) ∷ ws) b us v l m =
    elim m [
      | inl e ↦
          let head : b ≡ c = cc in
          let tail : us ≡ w = cc in
          subst (λ (x : ℕ). length (x ∷ us) ≤ mark_len x (us ++ v)) (sym head) (subst (λ (x : List ℕ). length (c ∷ x) ≤ mark_len c (x ++ v)) (sym tail) l.0)
      | inr n ↦ mark_limit ws b us v l.1 n
    ]

record MarkSplit (b : ℕ) (bs : List ℕ) (n : ℕ) : Type 0 where
  word : List ℕ
  rest : List ℕ
  is : b ∷ bs ≡ word ++ rest
  size : length word ≡ n
  mark : Among marks word

abbrev Singles : List ℕ → List (List ℕ) → List (List ℕ)
Singles [] ws = ws
Singles (x ∷ xs) ws = (x ∷ []) ∷ Singles xs ws

single_among : (xs : List ℕ) (ws : List (List ℕ)) (b : ℕ) → has_byte xs b ≡ true → Among (Singles xs ws) (b ∷ [])
single_among [] ws b h = absurd cc
single_among (x ∷ xs) ws b h =
    elim (or_cases (b == x) (has_byte xs b) h) [
      | inl e ↦ inl (ap (λ (z : ℕ). z ∷ []) (eqb-true b x e))
      | inr k ↦ inr (single_among xs ws b k)
    ]

next_splits : (c : ℕ) (bs : List ℕ) → next_is c bs ≡ true → (r : List ℕ) × (bs ≡ c ∷ r)
next_splits c [] h = absurd cc
next_splits c (b ∷ bs) h = (bs, ap (λ (z : ℕ). z ∷ bs) (eqb-true b c h))

module _ (b : ℕ) (bs : List ℕ) where
  mark_one : (x : ℕ) → b ≡ x → Among marks (x ∷ []) → MarkSplit b bs 1
  mark_one x e m = record { word = b ∷ []; rest = bs; is = refl; size = refl; mark = subst (λ (z : ℕ). Among marks (z ∷ [])) (sym e) m }

  mark_two : (x c : ℕ) → b ≡ x → next_is c bs ≡ true → Among marks (x ∷ c ∷ []) → MarkSplit b bs 2
  mark_two x c e h m =
      let r = next_splits c bs h in
      record {
        word = b ∷ c ∷ [];
        rest = r.0;
        is = ap (λ (z : List ℕ). b ∷ z) r.1;
        size = refl;
        mark = subst (λ (z : ℕ). Among marks (z ∷ c ∷ [])) (sym e) m;
      }

  one_byte_more : (x c : ℕ) → b ≡ x → Among marks (x ∷ []) → Among marks (x ∷ c ∷ []) → (z : Bool) → next_is c bs ≡ z → MarkSplit b bs (cond z 2 1)
  one_byte_more x c e m k true h = mark_two x c e h k
  one_byte_more x c e m k false h = mark_one x e m

  less_marks : b ≡ 60 → (z : Bool) → next_is 62 bs ≡ z → MarkSplit b bs (cond (z || next_is 61 bs) 2 1)
  less_marks e true h = mark_two 60 62 e h (inr (inr (inr (inr (inr (inr (inr (inr (inr (inr (inl refl)))))))))))
  less_marks e false h =
      one_byte_more 60 61 e (inr (inr (inr (inr (inr (inr (inr (inr (inr (inr (inr (inr (inl refl))))))))))))) (inr (inr (inr (inr (inr (inr (inr (inr (inr (inr (inr (inr (inr (inl refl)))))))))))))) (next_is 61 bs) refl

  bang_marks : b ≡ 33 → (z : Bool) → next_is 61 bs ≡ z → 1 ≤ cond z 2 0 → MarkSplit b bs (cond z 2 0)
  bang_marks e true h l = mark_two 33 61 e h (inr (inr (inr (inr (inr (inr (inr (inr (inr (inr (inr (inl refl))))))))))))
  bang_marks e false h l = absurd (omega arith)

  no_mark : {n : ℕ} → n ≡ 0 → 1 ≤ n → MarkSplit b bs n
  no_mark e l = absurd (omega arith)

  is_bang : (z : Bool) → (b == 33) ≡ z → 1 ≤ cond z (cond (next_is 61 bs) 2 0) 0 → MarkSplit b bs (cond z (cond (next_is 61 bs) 2 0) 0)
  is_bang true h l = bang_marks (eqb-true b 33 h) (next_is 61 bs) refl l
  is_bang false h l = absurd (omega arith)

  is_more : (z : Bool) → (b == 62) ≡ z → 1 ≤ cond z (cond (next_is 61 bs) 2 1) (cond (b == 33) (cond (next_is 61 bs) 2 0) 0)
      → MarkSplit b bs (cond z (cond (next_is 61 bs) 2 1) (cond (b == 33) (cond (next_is 61 bs) 2 0) 0))
  is_more true h l =
      one_byte_more 62 61 (eqb-true b 62 h) (inr (inr (inr (inr (inr (inr (inr (inr (inr (inr (inr (inr (inr (inr (inl refl)))))))))))))))
      (inr (inr (inr (inr (inr (inr (inr (inr (inr (inr (inr (inr (inr (inr (inr (inl refl)))))))))))))))) (next_is 61 bs) refl
  is_more false h l = is_bang (b == 33) refl l

  is_less : (z : Bool) → (b == 60) ≡ z → 1 ≤ cond z (cond (next_is 62 bs || next_is 61 bs) 2 1) (cond (b == 62) (cond (next_is 61 bs) 2 1) (cond (b == 33) (cond (next_is 61 bs) 2 0) 0))
      → MarkSplit b bs (cond z (cond (next_is 62 bs || next_is 61 bs) 2 1) (cond (b == 62) (cond (next_is 61 bs) 2 1) (cond (b == 33) (cond (next_is 61 bs) 2 0) 0)))
  is_less true h l = less_marks (eqb-true b 60 h) (next_is 62 bs) refl
  is_less false h l = is_more (b == 62) refl l

  is_equals : (z : Bool) → (b == 61) ≡ z
      → 1 ≤ cond z (cond (next_is 62 bs) 2 1) (cond (b == 60) (cond (next_is 62 bs || next_is 61 bs) 2 1) (cond (b == 62) (cond (next_is 61 bs) 2 1) (cond (b == 33) (cond (next_is 61 bs) 2 0) 0)))
      → MarkSplit b bs (cond z (cond (next_is 62 bs) 2 1) (cond (b == 60) (cond (next_is 62 bs || next_is 61 bs) 2 1) (cond (b == 62) (cond (next_is 61 bs) 2 1) (cond (b == 33) (cond (next_is 61 bs) 2 0) 0))))
  is_equals true h l =
      one_byte_more 61 62 (eqb-true b 61 h) (inr (inr (inr (inr (inr (inr (inr (inr (inr (inl refl))))))))))
      (inr (inr (inr (inr (inr (inr (inr (inr (inr (inr (inr (inr (inr (inr (inr (inr (inl refl))))))))))))))))) (next_is 62 bs) refl
  is_equals false h l = is_less (b == 60) refl l

  -- where some mark begins, that many bytes are one
  mark_is : 1 ≤ mark_len b bs → MarkSplit b bs (mark_len b bs)
  mark_is l = go (is_single b) refl l
    where
      go : (z : Bool) → is_single b ≡ z
          → 1 ≤ cond z 1 (cond (b == 61) (cond (next_is 62 bs) 2 1) (cond (b == 60) (cond (next_is 62 bs || next_is 61 bs) 2 1) (cond (b == 62) (cond (next_is 61 bs) 2 1) (cond (b == 33) (cond (next_is 61 bs) 2 0) 0))))
          → MarkSplit b bs (cond z 1 (cond (b == 61) (cond (next_is 62 bs) 2 1) (cond (b == 60) (cond (next_is 62 bs || next_is 61 bs) 2 1) (cond (b == 62) (cond (next_is 61 bs) 2 1) (cond (b == 33) (cond (next_is 61 bs) 2 0) 0)))))
      go true h l = mark_one b refl (single_among (codes "(),.:;*+-") (codes "=" ∷ codes "<>" ∷ codes "!=" ∷ codes "<" ∷ codes "<=" ∷ codes ">" ∷ codes ">=" ∷ codes "=>" ∷ []) b h)
      go false h l = is_equals (b == 61) refl l

-- ---- the token at the front

pub record Here (b : ℕ) (bs : List ℕ) (kind : TokenKind) (n : ℕ) : Type 0 where
  pub word : List ℕ
  pub rest : List ℕ
  pub is : b ∷ bs ≡ word ++ rest
  pub size : length word ≡ n
  pub next : IsNext kind word rest

-- no token of whatever kind is longer
abbrev NoLonger : ℕ → List ℕ → ℕ → Type 0
NoLonger b bs n = (k : TokenKind) (u v : List ℕ) → b ∷ bs ≡ u ++ v → IsToken k u v → length u ≤ n

id_longest : (b : ℕ) (bs : List ℕ) → is_ascii_alphabetic b ≡ true → NoLonger b bs (suc (length (front is_word_byte bs)))
id_longest b bs h Id u v e t =
    let s = starts Id u v b bs e t in
    let w : IsId (b ∷ s.0) = subst IsId s.1 t in
    omega (arith, ap length s.1, front_longest is_word_byte s.0 v bs (sym s.2) w.1)
id_longest b bs h Int u v e t = let s = starts Int u v b bs e t in absurd (letter_no_digit b h s.3)
id_longest b bs h Text u v e t = let s = starts Text u v b bs e t in absurd (letter_no_quote b h s.3)
id_longest b bs h Mark u v e t = let s = starts Mark u v b bs e t in absurd (letter_no_mark b h s.3)
id_longest b bs h Bad u v e t = absurd t

int_longest : (b : ℕ) (bs : List ℕ) → is_ascii_digit b ≡ true → NoLonger b bs (suc (length (front is_ascii_digit bs)))
int_longest b bs h Id u v e t = let s = starts Id u v b bs e t in absurd (letter_no_digit b s.3 h)
int_longest b bs h Int u v e t =
    let s = starts Int u v b bs e t in
    let w : IsInt (b ∷ s.0) = subst IsInt s.1 t in
    omega (arith, ap length s.1, front_longest is_ascii_digit s.0 v bs (sym s.2) (and_parts (is_ascii_digit b) (all_pass is_ascii_digit s.0) w).1)
int_longest b bs h Text u v e t = let s = starts Text u v b bs e t in absurd (digit_no_quote b h s.3)
int_longest b bs h Mark u v e t = let s = starts Mark u v b bs e t in absurd (digit_no_mark b h s.3)
int_longest b bs h Bad u v e t = absurd t

-- a text at the front is read to its end
text_read : (b : ℕ) (bs u v : List ℕ) → b ∷ bs ≡ u ++ v → IsText u v → (n : ℕ) × (text_len bs ≡ Some n) × (length u ≡ suc n)
text_read b bs u v e t =
    let s = starts Text u v b bs e t in
    let w : IsText (b ∷ s.0) v = subst (λ (z : List ℕ). IsText z v) s.1 t in
    (length s.0, ap (text_rest false) s.2 ∙ quoted_len s.0 v w.1, ap length s.1)

text_longest : (b : ℕ) (bs : List ℕ) (n : ℕ) → b ≡ 39 → text_len bs ≡ Some n → NoLonger b bs (suc n)
text_longest b bs n q l Id u v e t = let s = starts Id u v b bs e t in absurd (letter_no_quote b s.3 q)
text_longest b bs n q l Int u v e t = let s = starts Int u v b bs e t in absurd (digit_no_quote b s.3 q)
text_longest b bs n q l Text u v e t =
    let r = text_read b bs u v e t in
    let same : r.0 ≡ n = cc in
    omega (arith, same, r.2)
text_longest b bs n q l Mark u v e t = let s = starts Mark u v b bs e t in absurd (quote_no_mark b q s.3)
text_longest b bs n q l Bad u v e t = absurd t

mark_longest : (b : ℕ) (bs : List ℕ) → is_ascii_alphabetic b ≡ false → is_ascii_digit b ≡ false → (b == 39) ≡ false → NoLonger b bs (mark_len b bs)
mark_longest b bs l d q Id u v e t = let s = starts Id u v b bs e t in let k : is_ascii_alphabetic b ≡ true = s.3 in absurd cc
mark_longest b bs l d q Int u v e t = let s = starts Int u v b bs e t in let k : is_ascii_digit b ≡ true = s.3 in absurd cc
mark_longest b bs l d q Text u v e t = let s = starts Text u v b bs e t in absurd (not_quote b q s.3)
mark_longest b bs l d q Mark u v e t =
    let s = starts Mark u v b bs e t in
    let m : Among marks (b ∷ s.0) = subst (Among marks) s.1 t in
    let r : length (b ∷ s.0) ≤ mark_len b (s.0 ++ v) = mark_limit marks b s.0 v (marks_limited v) m in
    subst (λ (z : List ℕ). length u ≤ mark_len b z) (sym s.2) (subst (λ (z : List ℕ). length z ≤ mark_len b (s.0 ++ v)) (sym s.1) r)
mark_longest b bs l d q Bad u v e t = absurd t

-- where nothing longer than nothing stands, nothing stands
none_begins : (b : ℕ) (bs : List ℕ) → NoLonger b bs 0 → (k : TokenKind) (u v : List ℕ) → b ∷ bs ≡ u ++ v → IsToken k u v → ⊥
none_begins b bs no_longer k u v e t =
    let s = starts k u v b bs e t in
    omega (arith, ap length s.1, no_longer k u v e t)

bad_next : (b : ℕ) (bs word rest : List ℕ) → b ∷ bs ≡ word ++ rest → IsBad word rest → ((k : TokenKind) (u v : List ℕ) → b ∷ bs ≡ u ++ v → IsToken k u v → ⊥) → IsNext Bad word rest
bad_next b bs word rest e is none = record {
  is = is;
  longest = λ k u v p t. absurd (none k u v (e ∙ p) t);
  bad = λ z k u v p t. none k u v (e ∙ p) t;
}

good_next : (kind : TokenKind) (b : ℕ) (bs word rest : List ℕ) (n : ℕ) → b ∷ bs ≡ word ++ rest → length word ≡ n → (kind ≡ Bad → ⊥) → IsOne kind word rest → NoLonger b bs n → IsNext kind word rest
good_next kind b bs word rest n e size good is no_longer = record {
  is = is;
  longest = λ k u v p t. omega (arith, size, no_longer k u v (e ∙ p) t);
  bad = λ z k u v p t. good z;
}

id_here : (b : ℕ) (bs : List ℕ) → is_ascii_alphabetic b ≡ true → Here b bs Id (length (take_while is_word_byte bs) + 1)
id_here b bs h =
    let e : b ∷ bs ≡ (b ∷ front is_word_byte bs) ++ behind is_word_byte bs = ap (λ (z : List ℕ). b ∷ z) (front_is is_word_byte bs) in
    let size : length (b ∷ front is_word_byte bs) ≡ length (take_while is_word_byte bs) + 1 = rw (front_is_while is_word_byte bs) (omega arith) in
    record {
      word = b ∷ front is_word_byte bs;
      rest = behind is_word_byte bs;
      is = e;
      size = size;
      next = good_next Id b bs (b ∷ front is_word_byte bs) (behind is_word_byte bs) (suc (length (front is_word_byte bs))) e refl (λ k. cc) (h, front_passes is_word_byte bs) (id_longest b bs h);
    }

int_here : (b : ℕ) (bs : List ℕ) → is_ascii_digit b ≡ true → Here b bs Int (length (take_while is_ascii_digit bs) + 1)
int_here b bs h =
    let e : b ∷ bs ≡ (b ∷ front is_ascii_digit bs) ++ behind is_ascii_digit bs = ap (λ (z : List ℕ). b ∷ z) (front_is is_ascii_digit bs) in
    let size : length (b ∷ front is_ascii_digit bs) ≡ length (take_while is_ascii_digit bs) + 1 = rw (front_is_while is_ascii_digit bs) (omega arith) in
    record {
      word = b ∷ front is_ascii_digit bs;
      rest = behind is_ascii_digit bs;
      is = e;
      size = size;
      next = good_next Int b bs (b ∷ front is_ascii_digit bs) (behind is_ascii_digit bs) (suc (length (front is_ascii_digit bs))) e refl (λ k. cc) (rw (h, front_passes is_ascii_digit bs) refl) (int_longest b bs h);
    }

text_here : (b : ℕ) (bs : List ℕ) → is_blank b ≡ false → b ≡ 39 → (o : Option ℕ) → text_len bs ≡ o → Here b bs (quoted o (length bs)).0 (quoted o (length bs)).1
text_here b bs blank q (Some n) l =
    let s = text_open bs n l in
    let e : b ∷ bs ≡ (b ∷ s.word) ++ s.rest = ap (λ (z : List ℕ). b ∷ z) s.is in
    record {
      word = b ∷ s.word;
      rest = s.rest;
      is = e;
      size = omega (arith, s.size);
      next = good_next Text b bs (b ∷ s.word) s.rest (suc n) e (ap suc s.size) (λ k. cc) (q, s.quotes) (text_longest b bs n q l);
    }
text_here b bs blank q None l = record {
  word = b ∷ bs;
  rest = [];
  is = sym (append-nil (b ∷ bs));
  size = omega arith;
  next = bad_next b bs (b ∷ bs) [] (sym (append-nil (b ∷ bs))) (blank, (λ k. refl), (λ ne. absurd (ne q))) none;
}
  where
    none : (k : TokenKind) (u v : List ℕ) → b ∷ bs ≡ u ++ v → IsToken k u v → ⊥
    none Id u v e t = let s = starts Id u v b bs e t in letter_no_quote b s.3 q
    none Int u v e t = let s = starts Int u v b bs e t in digit_no_quote b s.3 q
    none Text u v e t = let r = text_read b bs u v e t in cc (l, r.1)
    none Mark u v e t = let s = starts Mark u v b bs e t in quote_no_mark b q s.3
    none Bad u v e t = t

some_mark : (n : ℕ) → (n == 0) ≡ false → 1 ≤ n
some_mark zero e = absurd cc
some_mark (suc n) e = omega arith

mark_here : (b : ℕ) (bs : List ℕ) → is_blank b ≡ false → is_ascii_alphabetic b ≡ false → is_ascii_digit b ≡ false → (b == 39) ≡ false → (n : ℕ) → mark_len b bs ≡ n → (z : Bool) → (n == 0) ≡ z
    → Here b bs (cond {A = TokenKind × ℕ} z (Bad, 1) (Mark, n)).0 (cond {A = TokenKind × ℕ} z (Bad, 1) (Mark, n)).1
mark_here b bs blank l d q n e true z = record {
  word = b ∷ [];
  rest = bs;
  is = refl;
  size = refl;
  next = bad_next b bs (b ∷ []) bs refl (blank, (λ k. absurd (not_quote b q k)), (λ ne. refl)) (none_begins b bs (subst (NoLonger b bs) (e ∙ eqb-true n 0 z) (mark_longest b bs l d q)));
}
mark_here b bs blank l d q n e false z =
    let some : 1 ≤ mark_len b bs = subst (λ (x : ℕ). 1 ≤ x) (sym e) (some_mark n z) in
    let s : MarkSplit b bs n = subst (MarkSplit b bs) e (mark_is b bs some) in
    record {
      word = s.word;
      rest = s.rest;
      is = s.is;
      size = s.size;
      next = good_next Mark b bs s.word s.rest n s.is s.size (λ k. cc) s.mark (subst (NoLonger b bs) e (mark_longest b bs l d q));
    }

pub here : (b : ℕ) (bs : List ℕ) → is_blank b ≡ false → Here b bs (token_from b bs).0 (token_from b bs).1
unfolding token_from
here b bs blank = by_letter (is_ascii_alphabetic b) refl
  where
    by_quote : (z : Bool) → is_ascii_alphabetic b ≡ false → is_ascii_digit b ≡ false → (b == 39) ≡ z
        → Here b bs (cond {A = TokenKind × ℕ} z (quoted (text_len bs) (length bs)) (marked (mark_len b bs))).0 (cond {A = TokenKind × ℕ} z (quoted (text_len bs) (length bs)) (marked (mark_len b bs))).1
    by_quote true l d e = text_here b bs blank (eqb-true b 39 e) (text_len bs) refl
    by_quote false l d e = mark_here b bs blank l d e (mark_len b bs) refl (mark_len b bs == 0) refl

    by_digit : (z : Bool) → is_ascii_alphabetic b ≡ false → is_ascii_digit b ≡ z
        → Here b bs (cond {A = TokenKind × ℕ} z (Int, length (take_while is_ascii_digit bs) + 1) (cond (b == 39) (quoted (text_len bs) (length bs)) (marked (mark_len b bs)))).0
        (cond {A = TokenKind × ℕ} z (Int, length (take_while is_ascii_digit bs) + 1) (cond (b == 39) (quoted (text_len bs) (length bs)) (marked (mark_len b bs)))).1
    by_digit true l e = int_here b bs e
    by_digit false l e = by_quote (b == 39) l e refl

    by_letter : (z : Bool) → is_ascii_alphabetic b ≡ z
        → Here b bs (cond {A = TokenKind × ℕ} z (Id, length (take_while is_word_byte bs) + 1) (cond (is_ascii_digit b) (Int, length (take_while is_ascii_digit bs) + 1) (cond (b == 39) (quoted (text_len bs) (length bs)) (marked (mark_len b bs))))).0
        (cond {A = TokenKind × ℕ} z (Id, length (take_while is_word_byte bs) + 1) (cond (is_ascii_digit b) (Int, length (take_while is_ascii_digit bs) + 1) (cond (b == 39) (quoted (text_len bs) (length bs)) (marked (mark_len b bs))))).1
    by_letter true e = id_here b bs e
    by_letter false e = by_digit (is_ascii_digit b) e refl

-- each token has a byte, even a bad one
pub some_byte : (b : ℕ) (bs : List ℕ) → 1 ≤ (token_from b bs).1
unfolding token_from
some_byte b bs = by_letter (is_ascii_alphabetic b)
  where
    of_mark : (n : ℕ) (z : Bool) → (n == 0) ≡ z → 1 ≤ (cond {A = TokenKind × ℕ} z (Bad, 1) (Mark, n)).1
    of_mark n true e = omega arith
    of_mark n false e = some_mark n e

    of_text : (o : Option ℕ) → 1 ≤ (quoted o (length bs)).1
    of_text (Some n) = omega arith
    of_text None = omega arith

    by_quote : (z : Bool) → 1 ≤ (cond {A = TokenKind × ℕ} z (quoted (text_len bs) (length bs)) (marked (mark_len b bs))).1
    by_quote true = of_text (text_len bs)
    by_quote false = of_mark (mark_len b bs) (mark_len b bs == 0) refl

    by_digit : (z : Bool) → 1 ≤ (cond {A = TokenKind × ℕ} z (Int, length (take_while is_ascii_digit bs) + 1) (cond {A = TokenKind × ℕ} (b == 39) (quoted (text_len bs) (length bs)) (marked (mark_len b bs)))).1
    by_digit true = omega arith
    by_digit false = by_quote (b == 39)

    by_letter : (z : Bool) → 1 ≤ (cond {A = TokenKind × ℕ} z (Id, length (take_while is_word_byte bs) + 1) (cond {A = TokenKind × ℕ} (is_ascii_digit b) (Int, length (take_while is_ascii_digit bs) + 1) (cond {A = TokenKind × ℕ} (b == 39) (quoted (text_len bs) (length bs)) (marked (mark_len b bs))))).1
    by_letter true = omega arith
    by_letter false = by_digit (is_ascii_digit b)
