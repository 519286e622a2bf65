-- Joined pieces end only where what they hold changes: the law joined_change.
use Rattle.std.proofs.Common.{◌≡◌, ◌≢◌, ℕ, zero, suc, ◌<◌, ◌≤◌, nat_le, nat_lt, true, false, ◌&&◌, List, [], ◌∷◌, Option, Some, None, refl, sym, ap, subst, ◌∙◌, ◌⊎◌, inl, inr, arith, le_refl}
use Rattle.std.proofs.lemmas.Bool.{cases_eq}
use Rattle.std.proofs.lemmas.Option.{same_Some, none-some}
use Rattle.wm_period.specs.Pieces.{Between, Held, IsApart, IsJoined, held, held_at}
use Rattle.wm_period.specs.declared.piece.Piece.{Piece}
use Rattle.wm_rebased.specs.Rebasing.{Changes}

-- at both ends of each of the pieces what is held changes
abbrev pub AllChange : (ℕ → Option Held) → List Piece → Type 0
AllChange f [] = Unit {0}
AllChange f (p ∷ ps) = Changes f p.period.from × Changes f p.period.till × AllChange f ps

-- ---- numbers

no_first : (from till : ℕ) → from < till → till ≢ 0
no_first from till lt same = omega (arith, lt, same)

covers_first : (from till : ℕ) → from < till → (nat_le from from && nat_lt from till) ≡ true
covers_first from till lt = grind (arith, lt)

covers_last : (from till t : ℕ) → from < till → till ≡ suc t → (nat_le from t && nat_lt t till) ≡ true
covers_last from till t lt same = grind (arith, lt, same)

covers_before : (low from till t : ℕ) → low ≤ from → t < low → (nat_le from t && nat_lt t till) ≡ false
covers_before low from till t le lt = grind (arith, le, lt)

covers_after : (from till t : ℕ) → till ≤ t → (nat_le from t && nat_lt t till) ≡ false
covers_after from till t le = grind (arith, le)

-- ---- what is held at the ends of a list

-- where one moment holds something that the moment before did not, it changes
change_of : (f : ℕ → Option Held) (n : ℕ) (after : Option Held) → f n ≡ after → (n ≡ 0 → after ≢ None) → ((t : ℕ) → n ≡ suc t → f t ≢ after) → Changes f n
change_of f zero after e first before = λ none. first refl (sym e ∙ none)
change_of f (suc t) after e first before = λ same. before t refl (same ∙ e)

-- nothing is held before the first piece
none_before : (ps : List Piece) (low high t : ℕ) → Between low ps high → t < low → held_at ps t ≡ None
none_before [] low high t b lt = refl
none_before (p ∷ ps) low high t b lt = rw (covers_before low p.period.from p.period.till t b.0 lt) (none_before ps p.period.till high t b.2 (below low p.period.from p.period.till t b.0 b.1 lt))
  where
    below : (i from till k : ℕ) → i ≤ from → from < till → k < i → k < till
    below i from till k le less lt = omega (arith, le, less, lt)

-- a list that begins apart from a piece does not go on with what the piece holds
apart_held : (p : Piece) (qs : List Piece) (high : ℕ) → Between p.period.till qs high → IsApart p qs → Some (held p) ≢ held_at qs p.period.till
apart_held p [] high b apart same = cc
apart_held p (q ∷ qs) high b apart same = by_end (cases_eq p.period.till q.period.from)
  where
    above : (i k : ℕ) → i ≤ k → i ≢ k → i < k
    above i k le other = grind (arith, le, other)

    first : held_at (q ∷ qs) q.period.from ≡ Some (held q)
    first = rw (covers_first q.period.from q.period.till b.1) refl

    by_end : (p.period.till ≡ q.period.from) ⊎ (p.period.till ≢ q.period.from) → ⊥
    by_end (inl meets) = apart meets (same_Some (held p) (held q) (same ∙ ap (held_at (q ∷ qs)) meets ∙ first))
    by_end (inr other) =
        none-some (held p) (sym (same ∙ none_before (q ∷ qs) q.period.from high p.period.till (le_refl q.period.from, b.1, b.2) (above p.period.till q.period.from b.0 other)))

-- ---- the law

-- where the first begins at an instant, what is held changes there
abbrev FirstChanges : (ℕ → Option Held) → ℕ → List Piece → Type 0
FirstChanges f low [] = Unit {0}
FirstChanges f low (p ∷ ps) = p.period.from ≡ low → Changes f low

joined_from : (f : ℕ → Option Held) (ps : List Piece) (low high : ℕ) → Between low ps high → IsJoined ps → ((t : ℕ) → low ≤ t → f t ≡ held_at ps t) → FirstChanges f low ps → AllChange f ps
joined_from f [] low high b joined same first = tt
joined_from f (p ∷ ps) low high b joined same first = (
  begins (cases_eq p.period.from low),
  ends,
  joined_from f ps p.period.till high b.2 joined.1 (λ t le. same t (longer low p.period.from p.period.till t b.0 b.1 le) ∙ rest t le) (next ps),
)
  where
    longer : (i from till t : ℕ) → i ≤ from → from < till → till ≤ t → i ≤ t
    longer i from till t le lt more = omega (arith, le, lt, more)

    last_in : (i from till t : ℕ) → i ≤ from → from < till → till ≡ suc t → i ≤ t
    last_in i from till t le lt is = omega (arith, le, lt, is)

    -- from the end of the piece on the others hold it
    rest : (t : ℕ) → p.period.till ≤ t → held_at (p ∷ ps) t ≡ held_at ps t
    rest t le = rw (covers_after p.period.from p.period.till t le) refl

    here : f p.period.from ≡ Some (held p)
    here = same p.period.from b.0 ∙ rw (covers_first p.period.from p.period.till b.1) refl

    last : (t : ℕ) → p.period.till ≡ suc t → f t ≡ Some (held p)
    last t is = same t (last_in low p.period.from p.period.till t b.0 b.1 is) ∙ rw (covers_last p.period.from p.period.till t b.1 is) refl

    -- the moment before is before the piece
    before : (i from t : ℕ) → i ≤ from → from ≢ i → from ≡ suc t → (i ≤ t) × (t < from)
    before i from t le other is = (omega (arith, le, other, is), omega (arith, is))

    begins : (p.period.from ≡ low) ⊎ (p.period.from ≢ low) → Changes f p.period.from
    begins (inl at) = subst (λ (n : ℕ). Changes f n) (sym at) (first at)
    begins (inr other) = change_of f p.period.from (Some (held p)) here (λ zero_is e. none-some (held p) (sym e))
        (λ t is e. let g = before low p.period.from t b.0 other is in
        none-some (held p) (sym (none_before (p ∷ ps) p.period.from high t (le_refl p.period.from, b.1, b.2) g.1) ∙ sym (same t g.0) ∙ e))

    ends : Changes f p.period.till
    ends = change_of f p.period.till (held_at ps p.period.till) (same p.period.till (longer low p.period.from p.period.till p.period.till b.0 b.1 (le_refl p.period.till)) ∙ rest p.period.till (le_refl p.period.till))
        (λ zero_is. absurd (no_first p.period.from p.period.till b.1 zero_is))
        (λ t is e. apart_held p ps high b.2 joined.0 (sym (last t is) ∙ e))

    next : (qs : List Piece) → FirstChanges f p.period.till qs
    next [] = tt
    next (q ∷ qs) = λ at. ends

pub joined_change : (ps : List Piece) (low high : ℕ) → Between low ps high → IsJoined ps → AllChange (held_at ps) ps
joined_change ps low high b joined = joined_from (held_at ps) ps low high b joined (λ t le. refl) (first ps b)
  where
    less : (i from t : ℕ) → from ≡ i → i ≡ suc t → t < from
    less i from t at is = omega (arith, at, is)

    first : (qs : List Piece) → Between low qs high → FirstChanges (held_at qs) low qs
    first [] bs = tt
    first (q ∷ qs) bs = λ at. subst (λ (n : ℕ). Changes (held_at (q ∷ qs)) n) at (begins at)
      where
        begins : q.period.from ≡ low → Changes (held_at (q ∷ qs)) q.period.from
        begins at = change_of (held_at (q ∷ qs)) q.period.from (Some (held q)) (rw (covers_first q.period.from q.period.till bs.1) refl) (λ zero_is e. none-some (held q) (sym e))
            (λ t is e. none-some (held q) (sym (none_before (q ∷ qs) low high t bs (less q.period.from low t (sym at) is)) ∙ e))
