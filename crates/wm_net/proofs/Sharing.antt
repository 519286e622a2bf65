-- Things that share no cell, each with a cell that passes a test, are no more than the stretches into which what passes it is cut.
use Rattle.std.proofs.Common.{◌≡◌, ℕ, ◌+◌, ◌≤◌, List, [], ◌∷◌, map, length, Bool, true, false, not, cond, ◌&&◌, ◌||◌, refl, sym, ap, ◌∙◌, arith, subst, ⊎_elim}
use Rattle.std.proofs.lemmas.List.Elements.{All-head, All-tail, filter-append}
use Rattle.std.proofs.lemmas.List.Folds.{list_any-append}
use Rattle.std.proofs.lemmas.List.Sums.{sum_by-cons, sum_by-le}
use Rattle.std.proofs.lemmas.Bool.{or_left, or_parts, or_right}
use Rattle.std.specs.List.{All, count_by, filter, list_any, sum_by}
use Rattle.wm_spec.specs.Lists.{Entry, Cell, covers, touched}
use Rattle.wm_spec.specs.Stretches.{cuts}
use Rattle.wm_spec.specs.declared.record.cell_range.CellRange.{CellRange}
use Rattle.wm_net.specs.Counts.{first_cells, cut_count, SteadyTest, IsSteady, has_ends, has_cuts, has_cell, Meet, AreApart}
use Rattle.wm_net.specs.Groups.{Group, cell, of_cell, same_group, groups, has_group}
use Rattle.wm_net.specs.Places.{Once}
use Rattle.wm_net.proofs.Alikes.{touched-cons}
use Rattle.wm_net.proofs.Counting.{count-cons, weight, firsts, all_firsts, first_cells-are}
use Rattle.wm_net.proofs.Cutting.{IsSteady-touched, IsSteady-cells}
use Rattle.wm_net.proofs.Grouping.{same_group-is, cuts_none}
use Rattle.wm_net.proofs.Stretching.{le_or_lt}

-- ---- pairs

-- how many pairs a relation holds of, counted by the second
abbrev pairs : {X Y : Type 0} → (X → Y → Bool) → List X → List Y → ℕ
pairs related xs ys = sum_by (λ y. count_by (λ x. related x y) xs) ys

pairs-cons : {X Y : Type 0} (related : X → Y → Bool) (x : X) (xs : List X) (ys : List Y) → pairs related (x ∷ xs) ys ≡ count_by (related x) ys + pairs related xs ys
pairs-cons related x xs [] = omega arith
pairs-cons related x xs (y ∷ ys) =
    let whole = sum_by-cons (λ z. count_by (λ w. related w z) (x ∷ xs)) y ys in
    let one = count-cons (λ w. related w y) x xs in
    let row = count-cons (related x) y ys in
    let others = sum_by-cons (λ z. count_by (λ w. related w z) xs) y ys in
    let rest = pairs-cons related x xs ys in
    omega (arith, whole, one, row, others, rest)

-- what passes is counted
any-counted : {X : Type 0} (p : X → Bool) (xs : List X) → list_any p xs ≡ true → 1 ≤ count_by p xs
any-counted p [] e = absurd (cc)
any-counted p (x ∷ xs) e = by_test (p x) e (count-cons p x xs) (any-counted p xs)
  where
    by_test : (b : Bool) → (b || list_any p xs) ≡ true → count_by p (x ∷ xs) ≡ cond b 1 0 + count_by p xs → (list_any p xs ≡ true → 1 ≤ count_by p xs)
        → 1 ≤ count_by p (x ∷ xs)
    by_test true h c rest = omega (arith, c)
    by_test false h c rest = omega (arith, c, rest h)

-- where each of one list has a partner in another, the pairs are no fewer than the first
pairs-reach : {X Y : Type 0} (related : X → Y → Bool) (xs : List X) (ys : List Y) → All (λ x. list_any (related x) ys ≡ true) xs → length xs ≤ pairs related xs ys
pairs-reach related [] ys all = omega arith
pairs-reach related (x ∷ xs) ys all =
    let whole = pairs-cons related x xs ys in
    let one = any-counted (related x) ys (All-head (λ z. list_any (related z) ys ≡ true) x xs all) in
    let rest = pairs-reach related xs ys (All-tail (λ z. list_any (related z) ys ≡ true) x xs all) in
    omega (arith, whole, one, rest)

-- and where no two share one, the second is no shorter than the first
pub partners : {X Y : Type 0} (related : X → Y → Bool) (xs : List X) (ys : List Y) → All (λ x. list_any (related x) ys ≡ true) xs
    → ((y : Y) → count_by (λ x. related x y) xs ≤ 1) → length xs ≤ length ys
partners related xs ys all once =
    let reach = pairs-reach related xs ys all in
    let most = sum_by-le (λ y. count_by (λ x. related x y) xs) 1 ys (λ k d lt. once _) in
    omega (arith, reach, most)

-- ---- first cells that are covered

any-behind : {X : Type 0} (p : X → Bool) (b : Bool) (x : X) (xs : List X) → list_any p xs ≡ true → list_any p (cond b (x ∷ xs) xs) ≡ true
any-behind p true x xs e = or_right (p x) (list_any p xs) e
any-behind p false x xs e = e

-- what is steady and has a moment has the first moment of its stretch
covered-group : (f h : Cell → Bool) (g : Group) (t low : ℕ) (cs : List ℕ) → SteadyTest (λ u. f (cell g u)) low cs → SteadyTest (λ u. h (cell g u)) low cs
    → low ≤ t → f (cell g t) ≡ true → h (cell g t) ≡ true → list_any h (filter f (map (cell g) (firsts low cs))) ≡ true
covered-group f h g t low [] s r le one two = absurd (let it : f (cell g t) ≡ false = s t le in cc)
covered-group f h g t low (a ∷ cs) s r le one two =
    ⊎_elim
    (λ past. any-behind h (f (cell g low)) (cell g low) (filter f (map (cell g) (firsts a cs))) (covered-group f h g t a cs s.1 r.1 past one two))
    (λ before.
    let first : f (cell g low) ≡ true = sym (s.0 t le before) ∙ one in
    let covered : h (cell g low) ≡ true = sym (r.0 t le before) ∙ two in
    rw first (or_left (h (cell g low)) (list_any h (filter f (map (cell g) (firsts a cs)))) covered))
    (le_or_lt a t)

covered-groups : (es : List Entry) (f h : Cell → Bool) (c : Cell) (gs : List Group) → IsSteady es f → IsSteady es h → f c ≡ true → h c ≡ true
    → has_group (of_cell c) gs ≡ true → list_any h (filter f (all_firsts es gs)) ≡ true
covered-groups es f h c [] s r one two e = absurd (cc)
covered-groups es f h c (g ∷ gs) s r one two e =
    ap (list_any h) (filter-append f here (all_firsts es gs))
    ∙ list_any-append h (filter f here) (filter f (all_firsts es gs))
    ∙ by_group (same_group g (of_cell c)) refl e (covered-groups es f h c gs s r one two)
  where
    here : List Cell
    here = map (cell g) (firsts 0 (cuts es g.table g.key))

    by_group : (b : Bool) → same_group g (of_cell c) ≡ b → (b || has_group (of_cell c) gs) ≡ true
        → (has_group (of_cell c) gs ≡ true → list_any h (filter f (all_firsts es gs)) ≡ true)
        → (list_any h (filter f here) || list_any h (filter f (all_firsts es gs))) ≡ true
    by_group false k out rest = or_right (list_any h (filter f here)) (list_any h (filter f (all_firsts es gs))) (rest out)
    by_group true k out rest =
        or_left (list_any h (filter f here)) (list_any h (filter f (all_firsts es gs)))
        (ap (λ (x : Group). list_any h (filter f (map (cell x) (firsts 0 (cuts es x.table x.key))))) (same_group-is g (of_cell c) k)
        ∙ covered-group f h (of_cell c) c.time 0 (cuts es c.table c.key) (s.steady (of_cell c)) (r.steady (of_cell c)) (omega arith) one two)

-- what passes a steady test is of a group that some entry is of
steady-group : (es : List Entry) (f : Cell → Bool) (c : Cell) → IsSteady es f → f c ≡ true → has_group (of_cell c) (groups es) ≡ true
steady-group es f c s e = by_test (has_group (of_cell c) (groups es)) refl
  where
    by_test : (b : Bool) → has_group (of_cell c) (groups es) ≡ b → b ≡ true
    by_test true h = refl
    by_test false h =
        let steady : SteadyTest (λ t. f (cell (of_cell c) t)) 0 [] =
        subst (λ (cs : List ℕ). SteadyTest (λ t. f (cell (of_cell c) t)) 0 cs) (cuts_none es (of_cell c) h) (s.steady (of_cell c)) in
        let none : f c ≡ false = steady c.time (omega arith) in
        absurd (cc)

pub covered : (es : List Entry) (f h : Cell → Bool) → IsSteady es f → IsSteady es h → Meet h f → list_any h (first_cells es f) ≡ true
covered es f h s r meet =
    ap (list_any h) (first_cells-are es f)
    ∙ covered-groups es f h meet.shared (groups es) s r meet.two meet.one (steady-group es f meet.shared s meet.two)

-- ---- things apart

-- things that no cell is in two of, each steady and with a cell that passes the test, are no more than the test's stretches
pub apart_count : {X : Type 0} (es : List Entry) (f : Cell → Bool) (covers : X → Cell → Bool) (xs : List X) → IsSteady es f
    → All (λ x. IsSteady es (covers x)) xs → All (λ x. Meet (covers x) f) xs → AreApart covers xs → length xs ≤ cut_count es f
apart_count es f covers xs s steady meet apart =
    partners covers xs (first_cells es f) (λ k d lt. covered es f (covers _) s (steady k d lt) (meet k d lt)) (λ c. apart.once c)

-- cells that end where entries do
pub cells_count : {X : Type 0} (es : List Entry) (f : Cell → Bool) (cells : X → CellRange) (xs : List X) → IsSteady es f
    → All (λ x. has_ends es (cells x) ≡ true) xs → All (λ x. Meet (has_cell (cells x)) f) xs → AreApart (λ x. has_cell (cells x)) xs → length xs ≤ cut_count es f
cells_count es f cells xs s ends meet apart =
    apart_count es f (λ x. has_cell (cells x)) xs s (λ k d lt. IsSteady-cells es (cells _) (ends k d lt)) meet apart

-- such cells, each with one that entries touch
pub touches_count : {X : Type 0} (es own : List Entry) (cells : X → CellRange) (xs : List X) → has_cuts es own ≡ true
    → All (λ x. has_ends es (cells x) ≡ true) xs → All (λ x. Meet (has_cell (cells x)) (touched own)) xs → AreApart (λ x. has_cell (cells x)) xs
    → length xs ≤ cut_count es (touched own)
touches_count es own cells xs cut = cells_count es (touched own) cells xs (IsSteady-touched es own cut)

-- ---- what is apart

-- no element and a later one are related
abbrev pub no_two : {X : Type 0} → (X → X → Bool) → List X → Bool
no_two related [] = true
no_two related (x ∷ xs) = not (list_any (related x) xs) && no_two related xs

-- where all that passes the one test passes the other, which nothing passes, nothing is counted
none-counted : {X : Type 0} (p q : X → Bool) (xs : List X) → ((x : X) → p x ≡ true → q x ≡ true) → list_any q xs ≡ false → count_by p xs ≡ 0
none-counted p q [] more e = refl
none-counted p q (x ∷ xs) more e = by_test (p x) (q x) (more x) e (count-cons p x xs) (none-counted p q xs more)
  where
    by_test : (a b : Bool) → (a ≡ true → b ≡ true) → (b || list_any q xs) ≡ false → count_by p (x ∷ xs) ≡ cond a 1 0 + count_by p xs
        → (list_any q xs ≡ false → count_by p xs ≡ 0) → count_by p (x ∷ xs) ≡ 0
    by_test true true h out c rest = absurd (cc)
    by_test true false h out c rest = absurd (let it : false ≡ true = h refl in cc)
    by_test false true h out c rest = absurd (cc)
    by_test false false h out c rest = omega (arith, c, rest out)

one-more : {X : Type 0} (p : X → Bool) (x : X) (xs : List X) → (p x ≡ true → count_by p xs ≡ 0) → count_by p xs ≤ 1 → count_by p (x ∷ xs) ≤ 1
one-more p x xs none rest = by_test (p x) none (count-cons p x xs)
  where
    by_test : (b : Bool) → (b ≡ true → count_by p xs ≡ 0) → count_by p (x ∷ xs) ≡ cond b 1 0 + count_by p xs → count_by p (x ∷ xs) ≤ 1
    by_test true h c = omega (arith, c, h refl)
    by_test false h c = omega (arith, c, rest)

not-true : (a b : Bool) → (not a && b) ≡ true → (a ≡ false) × (b ≡ true)
not-true true b e = absurd (cc)
not-true false b e = (refl, e)

-- no cell is in two things where no two that share one are in the list
pub AreApart-no_two : {X : Type 0} (covers : X → Cell → Bool) (related : X → X → Bool) (xs : List X)
    → ((x y : X) (c : Cell) → covers x c ≡ true → covers y c ≡ true → related x y ≡ true) → no_two related xs ≡ true → AreApart covers xs
AreApart-no_two {X = X} covers related xs share e = record { once = λ c. walk c xs e }
  where
    walk : (c : Cell) (ys : List X) → no_two related ys ≡ true → count_by (λ x. covers x c) ys ≤ 1
    walk c [] h = omega arith
    walk c (y ∷ ys) h =
        let two = not-true (list_any (related y) ys) (no_two related ys) h in
        one-more (λ x. covers x c) y ys (λ k. none-counted (λ x. covers x c) (related y) ys (λ z l. share y z c k l) two.0) (walk c ys two.1)

-- nor in two entries of a list that covers each cell once
pub AreApart-once : (es : List Entry) → Once es → AreApart covers es
AreApart-once es once = record { once = λ c. walk c es once }
  where
    none : (c : Cell) (xs : List Entry) → touched xs c ≡ false → count_by (λ x. covers x c) xs ≡ 0
    none c [] h = refl
    none c (x ∷ xs) h =
        let two = or_parts (touched xs c) (covers x c) (sym (touched-cons x xs c) ∙ h) in
        let first : cond (covers x c) 1 0 ≡ 0 = ap weight two.1 in
        omega (arith, count-cons (λ y. covers y c) x xs, first, none c xs two.0)

    walk : (c : Cell) (xs : List Entry) → Once xs → count_by (λ x. covers x c) xs ≤ 1
    walk c [] o = omega arith
    walk c (x ∷ xs) o = one-more (λ y. covers y c) x xs (λ k. none c xs (o.0 c k)) (walk c xs o.1)
