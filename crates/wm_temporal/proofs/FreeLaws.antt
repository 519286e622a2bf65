-- What periods in order leave free between two instants.
use Rattle.std.proofs.Common.{◌≡◌, ◌<◌, ◌≤◌, ◌+◌, ℕ, Bool, true, false, ◌&&◌, ◌||◌, not, min, max, leb, ltb, List, [], ◌∷◌, ◌++◌, length, get_or, drop, refl, sym, ap, ◌∙◌, arith, ◌⊎◌, inl, inr}
use Rattle.std.proofs.Math.Bool.{and-true, or-false}
use Rattle.std.proofs.lemmas.Bool.{ltb-true, cases_lt}
use Rattle.std.proofs.lemmas.Bool.Decides.{nat_tests}
use Rattle.std.proofs.lemmas.List.{append_assoc, drop_more, drop_all}
use Rattle.std.proofs.lemmas.List.Folds.{list_any-append}
use Rattle.std.specs.Bool.{then_some}
use Rattle.std.specs.Option.{option_to_list}
use Rattle.wm_base.specs.Period.{Span, covers}
use Rattle.wm_base.specs.declared.instant.TheConstants.{END}
use Rattle.wm_period.specs.Periods.{covered, BeginsAfter, AreApart}
use Rattle.wm_temporal.specs.Uncovered.{Follow, stretch, free}

-- ---- where the free periods lie

pub Follow-append : (a b c : ℕ) (ps qs : List Span) → Follow a ps b → Follow b qs c → Follow a (ps ++ qs) c
Follow-append a b c [] [] first second = omega arith
Follow-append a b c [] (q ∷ qs) first second = (omega (arith, second.0), second.1, second.2)
Follow-append a b c (p ∷ ps) qs first second = (first.0, first.1, Follow-append p.till b c ps qs first.2 second)

-- the two instants stand in order
pub Follow-ends : (a b : ℕ) (ps : List Span) → Follow a ps b → a ≤ b
Follow-ends a b [] order = order
Follow-ends a b (p ∷ ps) order = let rest = Follow-ends p.till b ps order.2 in omega (arith, order.0, order.1)

-- they lie in order between two instants that have both ends between them
pub free-order : (from till low high a b : ℕ) (ps : List Span) → Follow a ps b → low ≤ from → till ≤ high → low ≤ high → Follow low (free from till ps) high
free-order from till low high a b [] order least most less = by_test (ltb from till) refl
  where
    by_test : (v : Bool) → ltb from till ≡ v → Follow low (option_to_list (then_some v (let s : Span = record { from = from; till = till } in s))) high
    by_test true e = (least, ltb-true from till e, most)
    by_test false e = less
free-order from till low high a b (p ∷ ps) order least most less =
    by_test (λ w. free-order (max from p.till) till w high p.till b ps order.2) (ltb from (min p.from till)) refl
  where
    by_test : ((w : ℕ) → w ≤ max from p.till → till ≤ high → w ≤ high → Follow w (free (max from p.till) till ps) high) → (v : Bool) → ltb from (min p.from till) ≡ v
        → Follow low (option_to_list (then_some v (let s : Span = record { from = from; till = min p.from till } in s)) ++ free (max from p.till) till ps) high
    by_test rest true e = let long = order.1 in (least, ltb-true from (min p.from till) e, rest (min p.from till) (omega arith) most (omega arith))
    by_test rest false e = rest low (omega arith) most less

-- the first begins after an instant that is earlier
free-begins : (at from till : ℕ) (ps : List Span) → at < from → BeginsAfter at (free from till ps)
free-begins at from till [] early = by_test (ltb from till)
  where
    by_test : (v : Bool) → BeginsAfter at (option_to_list (then_some v (let s : Span = record { from = from; till = till } in s)))
    by_test true = early
    by_test false = tt
free-begins at from till (p ∷ ps) early = by_test (free-begins at (max from p.till) till ps (omega arith)) (ltb from (min p.from till))
  where
    by_test : BeginsAfter at (free (max from p.till) till ps) → (v : Bool)
        → BeginsAfter at (option_to_list (then_some v (let s : Span = record { from = from; till = min p.from till } in s)) ++ free (max from p.till) till ps)
    by_test rest true = early
    by_test rest false = rest

-- no two of them meet
pub free-apart : (from till a b : ℕ) (ps : List Span) → Follow a ps b → till ≤ END → AreApart (free from till ps)
free-apart from till a b [] order most = by_test (ltb from till) refl
  where
    by_test : (v : Bool) → ltb from till ≡ v → AreApart (option_to_list (then_some v (let s : Span = record { from = from; till = till } in s)))
    by_test true e = (ltb-true from till e, most, tt, tt)
    by_test false e = tt
free-apart from till a b (p ∷ ps) order most = by_test (free-apart (max from p.till) till p.till b ps order.2 most) (ltb from (min p.from till)) refl
  where
    by_test : AreApart (free (max from p.till) till ps) → (v : Bool) → ltb from (min p.from till) ≡ v
        → AreApart (option_to_list (then_some v (let s : Span = record { from = from; till = min p.from till } in s)) ++ free (max from p.till) till ps)
    by_test rest true e =
        let long = order.1 in
        (ltb-true from (min p.from till) e, omega arith, free-begins (min p.from till) (max from p.till) till ps (omega arith), rest)
    by_test rest false e = rest

-- ---- which moments are free

pub covered-append : (ps qs : List Span) (t : ℕ) → covered (ps ++ qs) t ≡ (covered ps t || covered qs t)
covered-append ps qs t = list_any-append (λ p. covers p t) ps qs

-- before they begin no period covers a moment
pub covered-early : (a b : ℕ) (ps : List Span) (t : ℕ) → Follow a ps b → t < a → covered ps t ≡ false
covered-early a b [] t order early = refl
covered-early a b (p ∷ ps) t order early =
    let least = order.0 in
    let long = order.1 in
    let missed : covers p t ≡ false = grind (arith, nat_tests) in
    ap (λ v. v || covered ps t) missed ∙ covered-early p.till b ps t order.2 (omega arith)

covered-stretch : (from till t : ℕ) → covered (stretch from till) t ≡ (leb from t && ltb t till)
covered-stretch from till t = by_test (ltb from till) refl
  where
    by_test : (v : Bool) → ltb from till ≡ v → covered (option_to_list (then_some v (let s : Span = record { from = from; till = till } in s))) t ≡ (leb from t && ltb t till)
    by_test true e = or-false (leb from t && ltb t till)
    by_test false e = grind (arith, nat_tests)

-- the first period and the others, by whether the moment lies before the first one's end
free_case : (a b x y t : ℕ) (c : Bool) → x < y → (t < y → c ≡ false)
    → ((leb a t && ltb t (min x b)) || ((leb (max a y) t && ltb t b) && not c)) ≡ ((leb a t && ltb t b) && not ((leb x t && ltb t y) || c))
free_case a b x y t true long early = by_place (cases_lt t y)
  where
    by_place : (t < y) ⊎ (y ≤ t) → ((leb a t && ltb t (min x b)) || ((leb (max a y) t && ltb t b) && not true)) ≡ ((leb a t && ltb t b) && not ((leb x t && ltb t y) || true))
    by_place (inl before) = absurd (let none = early before in cc)
    by_place (inr late) = grind (arith, nat_tests)
free_case a b x y t false long early = grind (arith, nat_tests)

-- the free periods cover the moments between the instants that no period covers
pub free-covered : (from till a b : ℕ) (ps : List Span) (t : ℕ) → Follow a ps b → covered (free from till ps) t ≡ ((leb from t && ltb t till) && not (covered ps t))
free-covered from till a b [] t order = covered-stretch from till t ∙ sym (and-true (leb from t && ltb t till))
free-covered from till a b (p ∷ ps) t order =
    covered-append (stretch from (min p.from till)) (free (max from p.till) till ps) t
    ∙ ap (λ v. v || covered (free (max from p.till) till ps) t) (covered-stretch from (min p.from till) t)
    ∙ ap (λ v. (leb from t && ltb t (min p.from till)) || v) (free-covered (max from p.till) till p.till b ps t order.2)
    ∙ free_case from till p.from p.till t (covered ps t) order.1 (λ early. covered-early p.till b ps t order.2 early)

-- ---- the loop over the periods

-- one period more
pub freeing_more : (into now start news : List Span) (from till i : ℕ) (p : Span) → i < length news → p ≡ get_or news i p
    → into ++ free from till (drop i news) ≡ start → now ≡ into ++ stretch from (min p.from till) → now ++ free (max from p.till) till (drop (i + 1) news) ≡ start
freeing_more into now start news from till i p within read so_far is =
    let here : drop i news ≡ p ∷ drop (i + 1) news = drop_more news i p within ∙ ap (λ q. q ∷ drop (i + 1) news) (sym read) in
    ap (λ l. l ++ free (max from p.till) till (drop (i + 1) news)) is
    ∙ append_assoc into (stretch from (min p.from till)) (free (max from p.till) till (drop (i + 1) news))
    ∙ ap (λ l. into ++ free from till l) (sym here) ∙ so_far

-- after the last
pub freeing_all : (into now start news : List Span) (from till i : ℕ) → length news ≤ i
    → into ++ free from till (drop i news) ≡ start → now ≡ into ++ stretch from till → now ≡ start
freeing_all into now start news from till i all so_far is = is ∙ ap (λ l. into ++ free from till l) (sym (drop_all i news all)) ∙ so_far
