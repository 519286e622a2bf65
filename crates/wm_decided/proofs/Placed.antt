-- Pieces of a key that have places for stamps, as stretches of the places.
use Rattle.std.proofs.Common.{◌≡◌, ℕ, ◌+◌, ◌<◌, ◌≤◌, ◌⊎◌, inl, inr, List, [], ◌∷◌, ◌++◌, length, Option, None, Some, option_map, Bool, true, false, ◌&&◌, ◌==◌, refl, sym, ap, ◌∙◌, arith, eqb-true}
use Rattle.std.proofs.lemmas.Bool.{and_parts}
use Rattle.std.proofs.lemmas.List.Elements.{All-cons, All-nil}
use Rattle.std.specs.Bool.{then_some}
use Rattle.std.specs.List.{All}
use Rattle.std.specs.Option.{option_or}
use Rattle.wm_base.proofs.Plain.{option_or-none}
use Rattle.wm_net.proofs.Stretching.{le_or_lt, value_before, within_is, within_not_after, within_not_before}
use Rattle.wm_net.specs.Groups.{Group, cell}
use Rattle.wm_net.specs.Listed.{IsApart, IsBlock, IsJoined, Ordered, same_number, value_at, within}
use Rattle.wm_net.specs.Places.{last_position}
use Rattle.wm_period.proofs.Order.{held_at-early}
use Rattle.wm_period.specs.Pieces as pieces
use Rattle.wm_period.specs.Pieces.{Between, Held, held, held_at}
use Rattle.wm_period.specs.declared.piece.Piece.{Piece}
use Rattle.wm_period.proofs.Canonical.{held_at-first, held_at-others}
use Rattle.wm_spec.proofs.Stretches.{by_test}
use Rattle.wm_spec.specs.Lists.{Cell, Entry, covers}
use Rattle.wm_decided.specs.Counted.{place_over, placed, places_over}

-- pieces hold the places that a function gives, from an instant on
abbrev pub Tells : (ℕ → Option ℕ) → ℕ → List Piece → Type 0
Tells f low ps = (t : ℕ) → low ≤ t → held_at ps t ≡ option_map placed (f t)

placed_is : (o : Option ℕ) (h : Held) → Some h ≡ option_map placed o → (o ≡ Some h.stamp.number) × (h ≡ placed h.stamp.number)
placed_is None h e = absurd (cc)
placed_is (Some n) h e = let one : h ≡ placed n = cc in (ap (λ (k : Held). Some k.stamp.number) (sym one), one ∙ ap (λ (k : Held). placed k.stamp.number) (sym one))

none_placed : (o : Option ℕ) → None ≡ option_map placed o → o ≡ None
none_placed None e = refl
none_placed (Some n) e = absurd (cc)

-- ---- the first piece and the others

first_is : (f : ℕ → Option ℕ) (low : ℕ) (p : Piece) (ps : List Piece) (t : ℕ) → Tells f low (p ∷ ps) → low ≤ t → p.period.from ≤ t → t < p.period.till
    → (f t ≡ Some p.stamp.number) × (held p ≡ placed p.stamp.number)
first_is f low p ps t tells le from till = placed_is (f t) (held p) (sym (held_at-first p ps t from till) ∙ tells t le)

others_tell : (f : ℕ → Option ℕ) (low : ℕ) (p : Piece) (ps : List Piece) → low ≤ p.period.from → p.period.from < p.period.till → Tells f low (p ∷ ps) → Tells f p.period.till ps
others_tell f low p ps le real tells t late = sym (held_at-others p ps t late) ∙ tells t (omega (arith, le, real, late))

-- ---- as stretches

ordered : (low high : ℕ) (ps : List Piece) → Between low ps high → Ordered low (places_over ps)
ordered low high [] b = tt
ordered low high (p ∷ ps) b = (b.0, b.1, ordered p.period.till high ps b.2)

value : (f : ℕ → Option ℕ) (low high : ℕ) (ps : List Piece) (t : ℕ) → Between low ps high → Tells f low ps → low ≤ t → value_at (places_over ps) t ≡ f t
value f low high [] t b tells le = sym (none_placed (f t) (tells t le))
value f low high (p ∷ ps) t b tells le =
    by_place (le_or_lt p.period.till t) (λ late. value f p.period.till high ps t b.2 (others_tell f low p ps b.0 b.1 tells) late)
  where
    by_from : t < p.period.till → (p.period.from ≤ t) ⊎ (t < p.period.from) → then_some (within p.period.from p.period.till t) p.stamp.number ≡ f t
    by_from early (inl from) = rw (within_is p.period.from p.period.till t from early) (sym (first_is f low p ps t tells le from early).0)
    by_from early (inr before) =
        rw (within_not_before p.period.from p.period.till t before)
        (sym (none_placed (f t) (sym (held_at-early p.period.from (p ∷ ps) high t (omega arith, b.1, b.2) before) ∙ tells t le)))

    by_place : (p.period.till ≤ t) ⊎ (t < p.period.till) → (p.period.till ≤ t → value_at (places_over ps) t ≡ f t) → value_at (places_over (p ∷ ps)) t ≡ f t
    by_place (inl late) rest = rw (within_not_after p.period.from p.period.till t late) (option_or-none (value_at (places_over ps) t) ∙ rest late)
    by_place (inr early) rest = rw (value_before p.period.till (places_over ps) t (ordered p.period.till high ps b.2) early) (by_from early (le_or_lt p.period.from t))

-- what meets the first of others has another place, where the pieces are joined
apart : (f : ℕ → Option ℕ) (low high : ℕ) (p : Piece) (ps : List Piece) → Between low (p ∷ ps) high → Tells f low (p ∷ ps) → pieces.IsApart p ps → IsApart same_number (place_over p) (places_over ps)
apart f low high p [] b tells a = tt
apart f low high p (q ∷ ps) b tells a =
    by_test ((p.period.till == q.period.from) && (p.stamp.number == q.stamp.number))
    (λ e.
    let two = and_parts (p.period.till == q.period.from) (p.stamp.number == q.stamp.number) e in
    let one = (first_is f low p (q ∷ ps) p.period.from tells b.0 (omega arith) b.1).1 in
    let other = (first_is f p.period.till q ps q.period.from (others_tell f low p (q ∷ ps) b.0 b.1 tells) b.2.0 (omega arith) b.2.1).1 in
    absurd (a (eqb-true p.period.till q.period.from two.0) (one ∙ ap placed (eqb-true p.stamp.number q.stamp.number two.1) ∙ sym other)))
    (λ e. e)

joined : (f : ℕ → Option ℕ) (low high : ℕ) (ps : List Piece) → Between low ps high → Tells f low ps → pieces.IsJoined ps → IsJoined same_number (places_over ps)
joined f low high [] b tells j = tt
joined f low high (p ∷ ps) b tells j = (apart f low high p ps b tells j.0, joined f p.period.till high ps b.2 (others_tell f low p ps b.0 b.1 tells) j.1)

-- the pieces of a key are a block of the function of the cell that they tell
pub places_block : (f : Cell → Option ℕ) (g : Group) (high : ℕ) (ps : List Piece) → Between 0 ps high → pieces.IsJoined ps → Tells (λ t. f (cell g t)) 0 ps
    → IsBlock same_number f (record { group = g; stretches = places_over ps })
places_block f g high ps b j tells = record {
  ordered = ordered 0 high ps b;
  joined = joined (λ t. f (cell g t)) 0 high ps b tells j;
  holds = λ t. value (λ t. f (cell g t)) 0 high ps t b tells (omega arith);
}

-- each place is that of a decision
pub all_within : (f : ℕ → Option ℕ) (low high count : ℕ) (ps : List Piece) → Between low ps high → Tells f low ps → ((t n : ℕ) → f t ≡ Some n → n < count) → All (λ (p : Piece). p.stamp.number < count) ps
all_within f low high count [] b tells bound = All-nil (λ (p : Piece). p.stamp.number < count)
all_within f low high count (p ∷ ps) b tells bound =
    All-cons (λ (p : Piece). p.stamp.number < count) p ps
    (bound p.period.from p.stamp.number (first_is f low p ps p.period.from tells b.0 (omega arith) b.1).0)
    (all_within f p.period.till high count ps b.2 (others_tell f low p ps b.0 b.1 tells) bound)

pub last_within : (es : List Entry) (c : Cell) (n : ℕ) → last_position es c ≡ Some n → n < length es
last_within [] c n e = absurd (cc)
last_within (x ∷ es) c n e = by_last (last_position es c) (covers x c) (λ k. last_within es c k) e
  where
    by_last : (o : Option ℕ) (b : Bool) → ((k : ℕ) → o ≡ Some k → k < length es) → option_or (option_map (λ (k : ℕ). k + 1) o) (then_some b 0) ≡ Some n → n < length (x ∷ es)
    by_last (Some k) b rest e = let one : k + 1 ≡ n = cc in omega (arith, rest k refl, one)
    by_last None true rest e = let one : 0 ≡ n = cc in omega (arith, one)
    by_last None false rest e = absurd (cc)

-- an entry more
pub last_more : (es : List Entry) (x : Entry) (c : Cell) → last_position (es ++ x ∷ []) c ≡ option_or (then_some (covers x c) (length es)) (last_position es c)
last_more [] x c = sym (option_or-none (then_some (covers x c) 0))
last_more (e ∷ es) x c = rw (last_more es x c) (by_test2 (covers x c))
  where
    by_test2 : (b : Bool) → option_or (option_map (λ (k : ℕ). k + 1) (option_or (then_some b (length es)) (last_position es c))) (then_some (covers e c) 0)
        ≡ option_or (then_some b (length (e ∷ es))) (option_or (option_map (λ (k : ℕ). k + 1) (last_position es c)) (then_some (covers e c) 0))
    by_test2 true = let one : length es + 1 ≡ length (e ∷ es) = omega arith in ap (λ n. Some n) one
    by_test2 false = refl
