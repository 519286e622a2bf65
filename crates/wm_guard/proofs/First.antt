-- Where cells of one key stand one behind another, the first lock that meets the first of them is the first of all.
use Rattle.std.proofs.Common.{◌≡◌, ℕ, ◌≤◌, ◌<◌, nat_lt, Bool, true, false, cond, ◌&&◌, ◌||◌, List, [], ◌∷◌, Option, Some, None, refl, sym, ap, ◌∙◌, arith}
use Rattle.std.proofs.lemmas.Bool.{and_parts, lt-ltb, ltb-true, true≢false}
use Rattle.std.specs.List.{find, list_any}
use Rattle.std.specs.Option.{option_or}
use Rattle.wm_ordering.proofs.SortLemmas.{Above, Rises}
use Rattle.wm_spec.specs.declared.record.cell_range.CellRange.{CellRange}
use Rattle.wm_spec.specs.declared.record.lock.Lock.{Lock}
use Rattle.wm_guard.proofs.Order.{comes_order}
use Rattle.wm_guard.specs.Barring.{comes_before, lex, meets}

lex_less : (m n : ℕ) (also : Bool) → m < n → lex m n also ≡ true
lex_less m n also less = rw (lt-ltb m n less) refl

-- what reaches behind a stretch without meeting it begins behind it
begins_behind : (from till start end : ℕ) → from ≤ till → till < end → (nat_lt from end && nat_lt start till) ≡ false → till ≤ start
begins_behind from till start end some past apart = by_start (nat_lt start till) refl
  where
    reaches : (i j k : ℕ) → i ≤ j → j < k → nat_lt i k ≡ true
    reaches i j k le lt = grind (arith, le, lt)

    behind : (i j : ℕ) → nat_lt i j ≡ false → j ≤ i
    behind i j e = grind (arith, e)

    by_start : (b : Bool) → nat_lt start till ≡ b → till ≤ start
    by_start false e = behind start till e
    by_start true e = absurd (true≢false (sym both ∙ apart))
      where
        both : (nat_lt from end && nat_lt start till) ≡ true
        both = rw (reaches from till end some past, e) refl

-- a lock that meets earlier cells comes before one that meets later cells and not those
pub barring_before : (c d : CellRange) → c.from ≤ c.till → c.till ≤ d.from → (x y : Lock) → meets c x.cells ≡ true → meets d y.cells ≡ true → meets c y.cells ≡ false → comes_before x y ≡ true
barring_before c d some behind x y first second apart =
    let starts = ltb-true x.cells.from c.till (and_parts (nat_lt c.from x.cells.till) (nat_lt x.cells.from c.till) first).1 in
    let reaches = ltb-true d.from y.cells.till (and_parts (nat_lt d.from y.cells.till) (nat_lt y.cells.from d.till) second).0 in
    let later = begins_behind c.from c.till y.cells.from y.cells.till some (past c.till d.from y.cells.till behind reaches) apart in
    lex_less x.cells.from y.cells.from _ (before x.cells.from c.till y.cells.from starts later)
  where
    past : (i j k : ℕ) → i ≤ j → j < k → i < k
    past i j k le lt = omega (arith, le, lt)

    before : (i j k : ℕ) → i < j → j ≤ k → i < k
    before i j k lt le = omega (arith, lt, le)

-- so that one does not come before it
pub barring_first : (c d : CellRange) → c.from ≤ c.till → c.till ≤ d.from → (x y : Lock) → meets c x.cells ≡ true → meets d y.cells ≡ true → meets c y.cells ≡ false → comes_before y x ≡ false
barring_first c d some behind x y first second apart = comes_order.one_way x y (barring_before c d some behind x y first second apart)

-- ---- many stretches of one key

-- each is some time, and behind those before it
abbrev pub Follow : ℕ → List CellRange → Type 0
Follow from [] = Unit {0}
Follow from (c ∷ cs) = (from ≤ c.from) × (c.from ≤ c.till) × Follow c.till cs

-- a stretch of them shares a moment with a lock
abbrev pub meets_any : List CellRange → Lock → Bool
meets_any cells x = list_any (λ c. meets c x.cells) cells

-- the first lock on the first stretch on which one passes a test
abbrev pub first_met : List CellRange → (Lock → Bool) → List Lock → Option Lock
first_met [] q xs = None
first_met (c ∷ cs) q xs = option_or (find (λ (x : Lock). meets c x.cells && q x) xs) (first_met cs q xs)

-- none of those behind a lock comes before it
none_met : (p q : Lock → Bool) (y : Lock) → ((x : Lock) → p x ≡ true → comes_before x y ≡ true) → (xs : List Lock) → Above comes_before y xs → find (λ x. p x && q x) xs ≡ None
none_met p q y first [] above = refl
none_met p q y first (x ∷ xs) above = by_test (p x) refl (none_met p q y first xs above.1)
  where
    by_test : (b : Bool) → p x ≡ b → find (λ z. p z && q z) xs ≡ None → cond (p x && q x) (Some x) (find (λ z. p z && q z) xs) ≡ None
    by_test true is rest = absurd (true≢false (sym (first x is) ∙ above.0))
    by_test false is rest = rw is rest

-- what passes the one test comes before what passes the other alone
first_either : (p r q : Lock → Bool) → ((x y : Lock) → p x ≡ true → r y ≡ true → p y ≡ false → comes_before x y ≡ true) → (xs : List Lock) → Rises comes_before xs
    → option_or (find (λ x. p x && q x) xs) (find (λ x. r x && q x) xs) ≡ find (λ x. (p x || r x) && q x) xs
first_either p r q before [] up = refl
first_either p r q before (x ∷ xs) up = by_tests (p x) refl (r x) refl (q x) (first_either p r q before xs up.1)
  where
    by_tests : (a : Bool) → p x ≡ a → (b : Bool) → r x ≡ b → (k : Bool) → option_or (find (λ z. p z && q z) xs) (find (λ z. r z && q z) xs) ≡ find (λ z. (p z || r z) && q z) xs
        → option_or (cond (a && k) (Some x) (find (λ z. p z && q z) xs)) (cond (b && k) (Some x) (find (λ z. r z && q z) xs)) ≡ cond ((a || b) && k) (Some x) (find (λ z. (p z || r z) && q z) xs)
    by_tests true is b also true rest = refl
    by_tests true is true also false rest = rest
    by_tests true is false also false rest = rest
    by_tests false out true also true rest = ap (λ o. option_or o (Some x)) (none_met p q x (λ z is. before z x is also out) xs up.0)
    by_tests false out true also false rest = rest
    by_tests false out false also k rest = rest

meets_later : (c : CellRange) (from : ℕ) (cs : List CellRange) → c.from ≤ c.till → c.till ≤ from → Follow from cs → (x y : Lock) → meets c x.cells ≡ true → meets_any cs y ≡ true → meets c y.cells ≡ false → comes_before x y ≡ true
meets_later c from [] some behind follow x y first second apart = absurd (true≢false (sym second))
meets_later c from (d ∷ cs) some behind follow x y first second apart =
    by_test (meets d y.cells) refl second (λ later. meets_later c d.till cs some (past c.till from d.from d.till behind follow.0 follow.1) follow.2 x y first later apart)
  where
    past : (i j k l : ℕ) → i ≤ j → j ≤ k → k ≤ l → i ≤ l
    past i j k l a b c = omega (arith, a, b, c)

    reach : (i j k : ℕ) → i ≤ j → j ≤ k → i ≤ k
    reach i j k a b = omega (arith, a, b)

    by_test : (b : Bool) → meets d y.cells ≡ b → (b || meets_any cs y) ≡ true → (meets_any cs y ≡ true → comes_before x y ≡ true) → comes_before x y ≡ true
    by_test true is either rest = barring_before c d some (reach c.till from d.from behind follow.0) x y first is apart
    by_test false is either rest = rest either

-- the first on the first stretch is the first of all that are met
pub first_met-any : (from : ℕ) (cells : List CellRange) → Follow from cells → (q : Lock → Bool) (xs : List Lock) → Rises comes_before xs → first_met cells q xs ≡ find (λ x. meets_any cells x && q x) xs
first_met-any from [] follow q xs up = none xs
  where
    none : (ys : List Lock) → None ≡ find (λ (x : Lock). false && q x) ys
    none [] = refl
    none (y ∷ ys) = none ys
first_met-any from (c ∷ cs) follow q xs up =
    ap (λ o. option_or (find (λ (x : Lock). meets c x.cells && q x) xs) o) (first_met-any c.till cs follow.2 q xs up)
    ∙ first_either (λ x. meets c x.cells) (meets_any cs) q (meets_later c c.till cs follow.1 (le_itself c.till) follow.2) xs up
  where
    le_itself : (i : ℕ) → i ≤ i
    le_itself i = omega arith
