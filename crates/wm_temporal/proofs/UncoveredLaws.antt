-- What new periods leave of old ones.
use Rattle.std.proofs.Common.{◌≡◌, ◌<◌, ◌≤◌, ◌+◌, ◌-◌, ℕ, Bool, true, false, ◌&&◌, ◌||◌, not, List, [], ◌∷◌, ◌++◌, length, get_or, take, refl, sym, ap, ◌∙◌, arith, suc}
use Rattle.std.proofs.lemmas.Bool.Decides.{nat_tests}
use Rattle.std.proofs.lemmas.Grind.{flat_map-append}
use Rattle.std.proofs.lemmas.List.{append-nil, take_all, take_more}
use Rattle.std.proofs.lemmas.List.Elements.{All-cons, All-nil, All-append}
use Rattle.std.specs.List.{All, Any}
use Rattle.wm_base.specs.Period.{Span, covers}
use Rattle.wm_base.specs.declared.instant.TheConstants.{END}
use Rattle.wm_period.specs.Periods.{covered, BeginsAfter, AreApart}
use Rattle.wm_temporal.proofs.FreeLaws.{Follow-append, Follow-ends, free-order, free-apart, free-covered, covered-append}
use Rattle.wm_temporal.specs.Uncovered.{Follow, free, uncovered, is_left, IsLongest}

-- ---- what is left of all old periods

pub uncovered-order : (low high a b : ℕ) (olds news : List Span) → Follow low olds high → Follow a news b → Follow low (uncovered olds news) high
uncovered-order low high a b [] news order others = order
uncovered-order low high a b (o ∷ os) news order others =
    let long = order.1 in
    Follow-append low o.till high (free o.from o.till news) (uncovered os news)
    (free-order o.from o.till low o.till a b news others order.0 (omega arith) (omega (arith, order.0)))
    (uncovered-order o.till high a b os news order.2 others)

and_or : (x y n : Bool) → ((x && n) || (y && n)) ≡ ((x || y) && n)
and_or true true true = refl
and_or true true false = refl
and_or true false true = refl
and_or true false false = refl
and_or false true true = refl
and_or false true false = refl
and_or false false true = refl
and_or false false false = refl

pub uncovered-cells : (a b : ℕ) (olds news : List Span) (t : ℕ) → Follow a news b → covered (uncovered olds news) t ≡ (covered olds t && not (covered news t))
uncovered-cells a b [] news t others = refl
uncovered-cells a b (o ∷ os) news t others =
    covered-append (free o.from o.till news) (uncovered os news) t
    ∙ ap (λ v. v || covered (uncovered os news) t) (free-covered o.from o.till a b news t others)
    ∙ ap (λ v. (covers o t && not (covered news t)) || v) (uncovered-cells a b os news t others)
    ∙ and_or (covers o t) (covered os t) (not (covered news t))

-- ---- the longest parts

-- the first period begins neither at an instant nor before it, or there is no moment before it
abbrev pub Begun : ℕ → List Span → Type 0
Begun low [] = Unit {0}
Begun low (p ∷ ps) = low ≤ p.from - 1

begun-after : (low : ℕ) (ps : List Span) → BeginsAfter low ps → Begun low ps
begun-after low [] begins = tt
begun-after low (p ∷ ps) begins = omega arith

begun-none : (ps : List Span) → Begun 0 ps
begun-none [] = tt
begun-none (p ∷ ps) = omega arith

-- until the first begins, and at that moment where it begins later, none covers a moment
apart-early : (at : ℕ) (ps : List Span) (t : ℕ) → BeginsAfter at ps → AreApart ps → t ≤ at → covered ps t ≡ false
apart-early at [] t begins apart early = refl
apart-early at (p ∷ ps) t begins apart early =
    let long = apart.0 in
    let missed : covers p t ≡ false = grind (arith, nat_tests) in
    ap (λ v. v || covered ps t) missed ∙ apart-early p.till ps t apart.2 apart.3 (omega arith)

-- of periods that stand apart each is a longest one
pub longest : (news : List Span) (old : Span) (low : ℕ) (ps : List Span) → AreApart ps → Begun low ps
    → ((t : ℕ) → low ≤ t → covered ps t ≡ is_left news old t) → All (IsLongest news old) ps
longest news old low [] apart begun same = All-nil (IsLongest news old)
longest news old low (p ∷ ps) apart begun same =
    All-cons (IsLongest news old) p ps (record {
      within = λ t covered_there.
          let late : p.from ≤ t = grind (arith, nat_tests) in
          sym (same t (omega (arith, begun))) ∙ ap (λ v. v || covered ps t) covered_there;
      before = λ t next.
          let missed : covers p t ≡ false = grind (arith, nat_tests) in
          sym (same t (omega (arith, begun))) ∙ ap (λ v. v || covered ps t) missed
          ∙ apart-early p.till ps t apart.2 apart.3 (omega (arith, apart.0));
      after =
          let missed : covers p p.till ≡ false = grind (arith, nat_tests) in
          sym (same p.till (omega (arith, begun, apart.0))) ∙ ap (λ v. v || covered ps p.till) missed
          ∙ apart-early p.till ps p.till apart.2 apart.3 (omega arith);
    }) (longest news old p.till ps apart.3 (begun-after p.till ps apart.2)
    (λ t late.
    let missed : covers p t ≡ false = grind (arith, nat_tests) in
    ap (λ v. v || covered ps t) (sym missed) ∙ same t (omega (arith, begun, apart.0))))

-- each part is a longest one of some old period
pub uncovered-longest : (low high a b : ℕ) (olds news : List Span) → Follow low olds high → high ≤ END → Follow a news b
    → All (λ part. Any (λ old. IsLongest news old part) olds) (uncovered olds news)
uncovered-longest low high a b [] news order ends others = All-nil (λ part. Any (λ old. IsLongest news old part) [])
uncovered-longest low high a b (o ∷ os) news order ends others =
    let later = Follow-ends o.till high os order.2 in
    let here : All (IsLongest news o) (free o.from o.till news) =
    longest news o 0 (free o.from o.till news) (free-apart o.from o.till a b news others (omega arith)) (begun-none (free o.from o.till news))
    (λ t _. free-covered o.from o.till a b news t others) in
    let there = uncovered-longest o.till high a b os news order.2 ends others in
    All-append (λ part. Any (λ old. IsLongest news old part) (o ∷ os)) (free o.from o.till news) (uncovered os news)
    (λ k d within. (0, o, omega arith, refl, here k d within))
    (λ k d within. let some = there k d within in (suc some.0, some.1, omega (arith, some.2), some.3, some.4))

-- ---- the loop over the old periods

-- one old period more
pub uncovered-more : (olds news now list : List Span) (i : ℕ) (o : Span) → i < length olds → o ≡ get_or olds i o
    → list ≡ uncovered (take i olds) news → now ≡ list ++ free o.from o.till news → now ≡ uncovered (take (i + 1) olds) news
uncovered-more olds news now list i o within read so_far is =
    is ∙ ap (λ l. l ++ free o.from o.till news) so_far
    ∙ ap (λ l. uncovered (take i olds) news ++ l) (sym (append-nil (free o.from o.till news)))
    ∙ sym (flat_map-append (λ old. free old.from old.till news) (take i olds) (o ∷ []))
    ∙ ap (λ l. uncovered l news) (rw (take_more olds i o within, ← read) refl)

-- after the last
pub uncovered-all : (olds news list : List Span) (i : ℕ) → length olds ≤ i → list ≡ uncovered (take i olds) news → list ≡ uncovered olds news
uncovered-all olds news list i all so_far = so_far ∙ ap (λ l. uncovered l news) (take_all i olds all)
