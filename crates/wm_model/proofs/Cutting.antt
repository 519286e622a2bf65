-- Lines of pieces: what stands before the next LF, and what is cut off at it.
use Rattle.std.proofs.Common.{ℕ, zero, suc, ◌≡◌, ◌<◌, ◌≤◌, ◌+◌, ◌==◌, nat_lt, Bool, true, false, cond, List, [], ◌∷◌, ◌++◌, length, map, take, refl, ap, sym, ◌∙◌, append_assoc, append-nil, length-append, arith}
use Rattle.std.proofs.lemmas.List.{length-take-le}
use Rattle.std.proofs.lemmas.Bool.{cond_both, cond-false, lt-leb, ltb-false}
use Rattle.wm_model.specs.Lines.{parts, before_first, without_cr, fits_line, too_long, cap, capped, HasNoLf, held_more}

-- bytes that stand before the first of the parts
abbrev pub before_all : Bool → List ℕ → List (List ℕ) → List (List ℕ)
before_all counts bytes [] = cond counts (bytes ∷ []) []
before_all counts bytes (part ∷ parts) = (bytes ++ part) ∷ parts

before_first-before_all : (counts : Bool) (b c : ℕ) (bytes : List ℕ) (ps : List (List ℕ)) → before_first counts b (before_all counts (c ∷ bytes) ps) ≡ before_all counts (b ∷ c ∷ bytes) ps
before_first-before_all true b c bytes [] = refl
before_first-before_all false b c bytes [] = refl
before_first-before_all counts b c bytes (p ∷ ps) = refl

before_first-single : (counts : Bool) (b : ℕ) (ps : List (List ℕ)) → before_first counts b ps ≡ before_all counts (b ∷ []) ps
before_first-single counts b [] = refl
before_first-single counts b (p ∷ ps) = refl

-- bytes with no LF stand before the first part of whatever follows
pub parts_front : (counts : Bool) (b : ℕ) (held rest : List ℕ) → HasNoLf (b ∷ held) → parts counts ((b ∷ held) ++ rest) ≡ before_all counts (b ∷ held) (parts counts rest)
parts_front counts b [] rest no_lf = rw no_lf.0 (before_first-single counts b (parts counts rest))
parts_front counts b (c ∷ held) rest no_lf = rw no_lf.0 (rw (parts_front counts c held rest no_lf.1) (before_first-before_all counts b c held (parts counts rest)))

-- at LF what was held is a part
pub parts_ended : (counts : Bool) (held rest : List ℕ) → HasNoLf held → parts counts (held ++ (10 ∷ rest)) ≡ held ∷ parts counts rest
parts_ended counts [] rest no_lf = refl
parts_ended counts (b ∷ held) rest no_lf = parts_front counts b held (10 ∷ rest) no_lf ∙ ap (λ (p : List ℕ). p ∷ parts counts rest) (append-nil (b ∷ held))

-- at the end of the input what was held is a line, if it is not empty
pub parts_last : (b : ℕ) (held : List ℕ) → HasNoLf (b ∷ held) → parts true (b ∷ held) ≡ (b ∷ held) ∷ []
parts_last b held no_lf = ap (parts true) (sym (append-nil (b ∷ held))) ∙ parts_front true b held [] no_lf

-- bytes with no LF are no ended line
pub parts_not_ended : (held : List ℕ) → HasNoLf held → parts false held ≡ []
parts_not_ended [] no_lf = refl
parts_not_ended (b ∷ held) no_lf = ap (parts false) (sym (append-nil (b ∷ held))) ∙ parts_front false b held [] no_lf

pub HasNoLf-append : (xs ys : List ℕ) → HasNoLf xs → HasNoLf ys → HasNoLf (xs ++ ys)
HasNoLf-append [] ys p q = q
HasNoLf-append (x ∷ xs) ys p q = (p.0, HasNoLf-append xs ys p.1 q)

pub HasNoLf-take : (n : ℕ) (xs : List ℕ) → HasNoLf xs → HasNoLf (take n xs)
HasNoLf-take zero xs p = tt
HasNoLf-take (suc n) [] p = tt
HasNoLf-take (suc n) (x ∷ xs) p = (p.0, HasNoLf-take n xs p.1)

pub length-without_cr : (line : List ℕ) → length line ≤ length (without_cr line) + 1
length-without_cr [] = omega arith
length-without_cr (b ∷ []) = cond_both (b == 13) [] (b ∷ []) (λ xs. 1 ≤ length xs + 1) (λ _. omega arith) (λ _. omega arith)
length-without_cr (b ∷ c ∷ line) = omega (arith, length-without_cr (c ∷ line))

pub cap-long : (line : List ℕ) → 16384 < length line → cap line ≡ too_long
cap-long line long = cond-false (fits_line line) line too_long (lt-leb (length line) 16384 long)

-- a line with more than 16,385 bytes does not fit, also without its CR
pub cap-without_cr-long : (line : List ℕ) → 16385 < length line → cap (without_cr line) ≡ too_long
cap-without_cr-long line long = cap-long (without_cr line) (omega (arith, length-without_cr line))

-- parts that begin with more than 16,385 bytes give the same lines, whatever these bytes are
before_all-long : (counts : Bool) (xs ys : List ℕ) (ps : List (List ℕ)) → 16385 < length xs → 16385 < length ys
    → map cap (map without_cr (before_all counts xs ps)) ≡ map cap (map without_cr (before_all counts ys ps))
before_all-long true xs ys [] p q = ap (λ (line : List ℕ). line ∷ []) (cap-without_cr-long xs p ∙ sym (cap-without_cr-long ys q))
before_all-long false xs ys [] p q = refl
before_all-long counts xs ys (part ∷ ps) p q =
    ap (λ (line : List ℕ). line ∷ map cap (map without_cr ps)) (cap-without_cr-long (xs ++ part) (omega (arith, p, length-append xs part)) ∙ sym (cap-without_cr-long (ys ++ part) (omega (arith, q, length-append ys part))))

pub capped_long : (counts : Bool) (xs ys rest : List ℕ) → HasNoLf xs → HasNoLf ys → 16385 < length xs → 16385 < length ys → capped counts (xs ++ rest) ≡ capped counts (ys ++ rest)
capped_long counts [] ys rest no_lf no_lf' p q = absurd (omega arith)
capped_long counts (x ∷ xs) [] rest no_lf no_lf' p q = absurd (omega arith)
capped_long counts (x ∷ xs) (y ∷ ys) rest no_lf no_lf' p q =
    ap (λ (ps : List (List ℕ)). map cap (map without_cr ps)) (parts_front counts x xs rest no_lf)
    ∙ before_all-long counts (x ∷ xs) (y ∷ ys) (parts counts rest) p q
    ∙ ap (λ (ps : List (List ℕ)). map cap (map without_cr ps)) (sym (parts_front counts y ys rest no_lf'))

-- nothing is lost by what is held of a line
pub capped-held_more : (counts : Bool) (held : List ℕ) (b : ℕ) (rest : List ℕ) → HasNoLf held → (b == 10) ≡ false → capped counts (held ++ (b ∷ rest)) ≡ capped counts (held_more held b ++ rest)
capped-held_more counts held b rest no_lf other = by_length (nat_lt (length held) 16385) refl where
  by_length : (t : Bool) → nat_lt (length held) 16385 ≡ t → capped counts (held ++ (b ∷ rest)) ≡ capped counts (cond t (held ++ b ∷ []) (take 16385 held ++ 0 ∷ []) ++ rest)
  by_length true is = ap (capped counts) (sym (append_assoc held (b ∷ []) rest))
  by_length false is =
      let long : 16385 ≤ length held = ltb-false (length held) 16385 is in
      ap (capped counts) (sym (append_assoc held (b ∷ []) rest))
      ∙ capped_long counts (held ++ b ∷ []) (take 16385 held ++ 0 ∷ []) rest
      (HasNoLf-append held (b ∷ []) no_lf (other, tt)) (HasNoLf-append (take 16385 held) (0 ∷ []) (HasNoLf-take 16385 held no_lf) (refl, tt))
      (omega (arith, long, length-append held (b ∷ [])))
      (omega (arith, length-append (take 16385 held) (0 ∷ []), length-take-le 16385 held long))

pub HasNoLf-held_more : (held : List ℕ) (b : ℕ) → HasNoLf held → (b == 10) ≡ false → HasNoLf (held_more held b)
HasNoLf-held_more held b no_lf other = cond_both (nat_lt (length held) 16385) (held ++ b ∷ []) (take 16385 held ++ 0 ∷ []) HasNoLf
    (λ _. HasNoLf-append held (b ∷ []) no_lf (other, tt)) (λ _. HasNoLf-append (take 16385 held) (0 ∷ []) (HasNoLf-take 16385 held no_lf) (refl, tt))

-- at LF what was held is a line
pub capped_ended : (counts : Bool) (held rest : List ℕ) → HasNoLf held → capped counts (held ++ (10 ∷ rest)) ≡ cap (without_cr held) ∷ capped counts rest
capped_ended counts held rest no_lf = ap (λ (ps : List (List ℕ)). map cap (map without_cr ps)) (parts_ended counts held rest no_lf)

pub capped_last : (b : ℕ) (held : List ℕ) → HasNoLf (b ∷ held) → capped true (b ∷ held) ≡ cap (without_cr (b ∷ held)) ∷ []
capped_last b held no_lf = ap (λ (ps : List (List ℕ)). map cap (map without_cr ps)) (parts_last b held no_lf)

pub capped_not_ended : (held : List ℕ) → HasNoLf held → capped false held ≡ []
capped_not_ended held no_lf = ap (λ (ps : List (List ℕ)). map cap (map without_cr ps)) (parts_not_ended held no_lf)
