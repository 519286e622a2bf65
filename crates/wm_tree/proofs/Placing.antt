-- A tree kept as a list by number: its newest first, and the place of a number found by halving.
use Rattle.std.proofs.Common.{◌≡◌, ◌≢◌, ◌<◌, ◌≤◌, ◌+◌, ℕ, Bool, true, false, cond, eqb, List, [], ◌∷◌, ◌++◌, length, get_or, take, drop, insert, Some, None, refl, sym, ap, ◌∙◌, subst, arith}
use Rattle.std.proofs.lemmas.List.{append_assoc, append-nil, take-append-drop, drop_more, take_more, drop_all, get_or_default}
use Rattle.std.specs.List.{filter}
use Rattle.std.specs.Option.{option_or}
use Rattle.wm_tree.proofs.Paths.{version_in-here, version_in-away, version_in-above, AllBelow-more}
use Rattle.wm_tree.proofs.Growing.{grow-front, grow-later}
use Rattle.wm_tree.specs.Versions.{version_in, grow, is_outside, AllBelow, AllFrom, IsTree, newest_first}
use Rattle.wm_tree.specs.declared.version.Version.{Version}

-- ---- the list from its end

newest_first-append : (xs ys : List Version) → newest_first (xs ++ ys) ≡ newest_first ys ++ newest_first xs
newest_first-append [] ys = sym (append-nil (newest_first ys))
newest_first-append (x ∷ xs) ys =
    ap (λ l. l ++ x ∷ []) (newest_first-append xs ys) ∙ append_assoc (newest_first ys) (newest_first xs) (x ∷ [])

-- a list that is taken apart at one version
newest_first-at : (front : List Version) (x : Version) (back : List Version) → newest_first (front ++ x ∷ back) ≡ newest_first back ++ x ∷ newest_first front
newest_first-at front x back = newest_first-append front (x ∷ back) ∙ append_assoc (newest_first back) (x ∷ []) (newest_first front)

filter-append : (s : ℕ) (xs : List Version) (x : Version) → filter (is_outside s) (xs ++ x ∷ []) ≡ filter (is_outside s) xs ++ filter (is_outside s) (x ∷ [])
filter-append s [] x = refl
filter-append s (y ∷ ys) x = by_test (is_outside s y) (filter-append s ys x)
  where
    by_test : (b : Bool) → filter (is_outside s) (ys ++ x ∷ []) ≡ filter (is_outside s) ys ++ filter (is_outside s) (x ∷ [])
        → cond b (y ∷ filter (is_outside s) (ys ++ x ∷ [])) (filter (is_outside s) (ys ++ x ∷ [])) ≡ cond b (y ∷ filter (is_outside s) ys) (filter (is_outside s) ys) ++ filter (is_outside s) (x ∷ [])
    by_test true rest = ap (λ l. y ∷ l) rest
    by_test false rest = rest

-- it makes no difference whether versions are left out before or after
pub newest_first-filter : (s : ℕ) (xs : List Version) → newest_first (filter (is_outside s) xs) ≡ filter (is_outside s) (newest_first xs)
newest_first-filter s [] = refl
newest_first-filter s (x ∷ xs) = by_test (is_outside s x) (newest_first-filter s xs) ∙ sym (filter-append s (newest_first xs) x)
  where
    by_test : (b : Bool) → newest_first (filter (is_outside s) xs) ≡ filter (is_outside s) (newest_first xs)
        → newest_first (cond b (x ∷ filter (is_outside s) xs) (filter (is_outside s) xs)) ≡ filter (is_outside s) (newest_first xs) ++ cond b (x ∷ []) []
    by_test true rest = ap (λ l. l ++ x ∷ []) rest
    by_test false rest = rest ∙ sym (append-nil (filter (is_outside s) (newest_first xs)))

AllBelow-append : (n : ℕ) (xs ys : List Version) → AllBelow n xs → AllBelow n ys → AllBelow n (xs ++ ys)
AllBelow-append n [] ys first second = second
AllBelow-append n (x ∷ xs) ys first second = (first.0, AllBelow-append n xs ys first.1 second)

AllBelow-newest_first : (n : ℕ) (xs : List Version) → AllBelow n xs → AllBelow n (newest_first xs)
AllBelow-newest_first n [] below = tt
AllBelow-newest_first n (x ∷ xs) below = AllBelow-append n (newest_first xs) (x ∷ []) (AllBelow-newest_first n xs below.1) (below.0, tt)

AllBelow-from_newest : (n : ℕ) (xs : List Version) → AllBelow n (newest_first xs) → AllBelow n xs
AllBelow-from_newest n [] below = tt
AllBelow-from_newest n (x ∷ xs) below = (last n (newest_first xs) x below, AllBelow-from_newest n xs (front n (newest_first xs) x below))
  where
    last : (n : ℕ) (ys : List Version) (x : Version) → AllBelow n (ys ++ x ∷ []) → x.number < n
    last n [] x below = below.0
    last n (y ∷ ys) x below = last n ys x below.1

    front : (n : ℕ) (ys : List Version) (x : Version) → AllBelow n (ys ++ x ∷ []) → AllBelow n ys
    front n [] x below = tt
    front n (y ∷ ys) x below = (below.0, front n ys x below.1)

pub AllFrom-less : (m n : ℕ) (xs : List Version) → n ≤ m → AllFrom m xs → AllFrom n xs
AllFrom-less m n [] less from = tt
AllFrom-less m n (x ∷ xs) less from = (omega (arith, from.0), AllFrom-less m n xs less from.1)

AllFrom-append : (n : ℕ) (xs ys : List Version) → AllFrom n xs → AllFrom n ys → AllFrom n (xs ++ ys)
AllFrom-append n [] ys first second = second
AllFrom-append n (x ∷ xs) ys first second = (first.0, AllFrom-append n xs ys first.1 second)

AllFrom-newest_first : (n : ℕ) (xs : List Version) → AllFrom n xs → AllFrom n (newest_first xs)
AllFrom-newest_first n [] from = tt
AllFrom-newest_first n (x ∷ xs) from = AllFrom-append n (newest_first xs) (x ∷ []) (AllFrom-newest_first n xs from.1) (from.0, tt)

AllFrom-from_newest : (n : ℕ) (xs : List Version) → AllFrom n (newest_first xs) → AllFrom n xs
AllFrom-from_newest n [] from = tt
AllFrom-from_newest n (x ∷ xs) from = (last n (newest_first xs) x from, AllFrom-from_newest n xs (front n (newest_first xs) x from))
  where
    last : (n : ℕ) (ys : List Version) (x : Version) → AllFrom n (ys ++ x ∷ []) → n ≤ x.number
    last n [] x from = from.0
    last n (y ∷ ys) x from = last n ys x from.1

    front : (n : ℕ) (ys : List Version) (x : Version) → AllFrom n (ys ++ x ∷ []) → AllFrom n ys
    front n [] x from = tt
    front n (y ∷ ys) x from = (from.0, front n ys x from.1)

-- ---- what lies on either side of a version

-- the versions on either side of one
record Sides (newer : List Version) (x : Version) (older : List Version) : Type 0 where
  above : AllFrom (x.number + 1) newer
  below : AllBelow x.number older

sides : (newer : List Version) (x : Version) (older : List Version) → IsTree (newer ++ x ∷ older) → Sides newer x older
sides [] x older tree = record { above = tt; below = tree.1 }
sides (y ∷ newer) x older tree =
    let rest = sides newer x older tree.3 in
    record { above = (omega (arith, at_last y.number newer x older tree.1), rest.above); below = rest.below }
  where
    at_last : (n : ℕ) (ys : List Version) (z : Version) (zs : List Version) → AllBelow n (ys ++ z ∷ zs) → z.number < n
    at_last n [] z zs below = below.0
    at_last n (w ∷ ys) z zs below = at_last n ys z zs below.1

at_place : (xs : List Version) (i : ℕ) (x : Version) → i < length xs → x ≡ get_or xs i x → take i xs ++ x ∷ drop (i + 1) xs ≡ xs
at_place xs i x within read =
    ap (λ l. take i xs ++ l) (sym (drop_more xs i x within ∙ ap (λ y. y ∷ drop (i + 1) xs) (sym read))) ∙ take-append-drop i xs

-- the same of a place of the list by number
pub record AtPlace (xs : List Version) (i : ℕ) (x : Version) : Type 0 where
  pub before : AllBelow x.number (take i xs)
  pub behind : AllFrom (x.number + 1) (drop (i + 1) xs)

pub placed : (xs : List Version) (i : ℕ) (x : Version) → IsTree (newest_first xs) → i < length xs → x ≡ get_or xs i x → AtPlace xs i x
placed xs i x tree within read =
    let whole : newest_first xs ≡ newest_first (drop (i + 1) xs) ++ x ∷ newest_first (take i xs) =
    ap newest_first (sym (at_place xs i x within read)) ∙ newest_first-at (take i xs) x (drop (i + 1) xs) in
    let two = sides (newest_first (drop (i + 1) xs)) x (newest_first (take i xs)) (subst IsTree whole tree) in
    record {
      before = AllBelow-from_newest x.number (take i xs) two.below;
      behind = AllFrom-from_newest (x.number + 1) (drop (i + 1) xs) two.above;
    }

-- ---- halving

-- where the search for the place of a number stands: what lies before `low` is below it, and what lies from `high` on is not
pub record Halving (xs : List Version) (n low high : ℕ) : Type 0 where
  pub before : AllBelow n (take low xs)
  pub behind : AllFrom n (drop high xs)
  pub order : low ≤ high
  pub within : high ≤ length xs

pub halving_none : (xs : List Version) (n : ℕ) → Halving xs n 0 (length xs)
halving_none xs n = record { before = tt; behind = rw (drop_all (length xs) xs (omega arith)) tt; order = omega arith; within = omega arith }

pub halving_right : (xs : List Version) (n low high i : ℕ) (x : Version) → IsTree (newest_first xs) → Halving xs n low high → low ≤ i → i < high → x ≡ get_or xs i x → x.number < n
    → Halving xs n (i + 1) high
halving_right xs n low high i x tree so left right read less =
    let within = so.within in
    let there = placed xs i x tree (omega arith) read in
    record {
      before = rw (take_more xs i x (omega arith), ← read) (AllBelow-append n (take i xs) (x ∷ []) (AllBelow-more x.number n (take i xs) (omega arith) there.before) (less, tt));
      behind = so.behind;
      order = omega arith;
      within = so.within;
    }

pub halving_left : (xs : List Version) (n low high i : ℕ) (x : Version) → IsTree (newest_first xs) → Halving xs n low high → low ≤ i → i < high → x ≡ get_or xs i x → n ≤ x.number
    → Halving xs n low i
halving_left xs n low high i x tree so left right read more =
    let within = so.within in
    let there = placed xs i x tree (omega arith) read in
    record {
      before = so.before;
      behind = rw (drop_more xs i x (omega arith), ← read) (more, AllFrom-less (x.number + 1) n (drop (i + 1) xs) (omega arith) there.behind);
      order = left;
      within = omega arith;
    }

pub halving_right_at : (xs : List Version) (n low high i : ℕ) (d : Version) → IsTree (newest_first xs) → Halving xs n low high → low ≤ i → i < high → (get_or xs i d).number < n
    → Halving xs n (i + 1) high
halving_right_at xs n low high i d tree so left right less =
    let within = so.within in
    halving_right xs n low high i (get_or xs i d) tree so left right (get_or_default xs i d (get_or xs i d) (omega arith)) less

pub halving_left_at : (xs : List Version) (n low high i : ℕ) (d : Version) → IsTree (newest_first xs) → Halving xs n low high → low ≤ i → i < high → n ≤ (get_or xs i d).number
    → Halving xs n low i
halving_left_at xs n low high i d tree so left right more =
    let within = so.within in
    halving_left xs n low high i (get_or xs i d) tree so left right (get_or_default xs i d (get_or xs i d) (omega arith)) more

-- ---- what the place tells

version_in-append : (xs ys : List Version) (n : ℕ) → version_in (xs ++ ys) n ≡ option_or (version_in xs n) (version_in ys n)
version_in-append [] ys n = refl
version_in-append (x ∷ xs) ys n = by_test (eqb x.number n) (version_in-append xs ys n)
  where
    by_test : (b : Bool) → version_in (xs ++ ys) n ≡ option_or (version_in xs n) (version_in ys n)
        → cond b (Some x) (version_in (xs ++ ys) n) ≡ option_or (cond b (Some x) (version_in xs n)) (version_in ys n)
    by_test true rest = refl
    by_test false rest = rest

version_in-from : (n m : ℕ) (xs : List Version) → AllFrom n xs → m < n → version_in xs m ≡ None
version_in-from n m [] from less = refl
version_in-from n m (x ∷ xs) from less = let first = from.0 in version_in-away x xs m (λ e. absurd (omega arith)) ∙ version_in-from n m xs from.1 less

-- the version at the place of its number is the one of that number
pub found_at_place : (xs : List Version) (i : ℕ) (x : Version) → IsTree (newest_first xs) → i < length xs → x ≡ get_or xs i x → version_in (newest_first xs) x.number ≡ Some x
found_at_place xs i x tree within read =
    let there = placed xs i x tree within read in
    ap (λ l. version_in (newest_first l) x.number) (sym (at_place xs i x within read))
    ∙ ap (λ l. version_in l x.number) (newest_first-at (take i xs) x (drop (i + 1) xs))
    ∙ version_in-append (newest_first (drop (i + 1) xs)) (x ∷ newest_first (take i xs)) x.number
    ∙ ap (λ o. option_or o (version_in (x ∷ newest_first (take i xs)) x.number))
    (version_in-from (x.number + 1) x.number (newest_first (drop (i + 1) xs)) (AllFrom-newest_first (x.number + 1) (drop (i + 1) xs) there.behind) (omega arith))
    ∙ version_in-here x (newest_first (take i xs)) x.number refl

-- where no version of the number stands at its place there is none
pub none_at_place : (xs : List Version) (n i : ℕ) → AllBelow n (take i xs) → AllFrom (n + 1) (drop i xs) → version_in (newest_first xs) n ≡ None
none_at_place xs n i before behind =
    ap (λ l. version_in (newest_first l) n) (sym (take-append-drop i xs))
    ∙ ap (λ l. version_in l n) (newest_first-append (take i xs) (drop i xs))
    ∙ version_in-append (newest_first (drop i xs)) (newest_first (take i xs)) n
    ∙ ap (λ o. option_or o (version_in (newest_first (take i xs)) n)) (version_in-from (n + 1) n (newest_first (drop i xs)) (AllFrom-newest_first (n + 1) (drop i xs) behind) (omega arith))
    ∙ version_in-above n (newest_first (take i xs)) n (AllBelow-newest_first n (take i xs) before) (omega arith)

pub found_there : (xs : List Version) (i : ℕ) (d : Version) (n : ℕ) → IsTree (newest_first xs) → i < length xs → (get_or xs i d).number ≡ n → version_in (newest_first xs) n ≡ Some (get_or xs i d)
found_there xs i d n tree within is =
    ap (version_in (newest_first xs)) (sym is)
    ∙ found_at_place xs i (get_or xs i d) tree within (get_or_default xs i d (get_or xs i d) within)

-- another version stands at the place
pub other_there : (xs : List Version) (n i : ℕ) (d : Version) → IsTree (newest_first xs) → i < length xs → AllBelow n (take i xs) → AllFrom n (drop i xs) → (get_or xs i d).number ≢ n
    → version_in (newest_first xs) n ≡ None
other_there xs n i d tree within before behind other =
    let here : drop i xs ≡ get_or xs i d ∷ drop (i + 1) xs = drop_more xs i d within in
    let from : AllFrom n (get_or xs i d ∷ drop (i + 1) xs) = subst (AllFrom n) here behind in
    let more : n < (get_or xs i d).number = above n (get_or xs i d).number from.0 other in
    let rest = (placed xs i (get_or xs i d) tree within (get_or_default xs i d (get_or xs i d) within)).behind in
    none_at_place xs n i before (rw here (omega arith, AllFrom-less ((get_or xs i d).number + 1) (n + 1) (drop (i + 1) xs) (omega arith) rest))
  where
    above : (m k : ℕ) → m ≤ k → k ≢ m → m < k
    above m k less apart = omega arith

-- no version stands at the place
pub nothing_there : (xs : List Version) (n i : ℕ) → length xs ≤ i → AllBelow n (take i xs) → version_in (newest_first xs) n ≡ None
nothing_there xs n i past before = none_at_place xs n i before (rw (drop_all i xs past) tt)

-- ---- a version more

grow-between : (x : Version) (newer older : List Version) → AllFrom x.number newer → AllBelow x.number older → grow x (newer ++ older) ≡ newer ++ x ∷ older
grow-between x [] [] above below = refl
grow-between x [] (y ∷ older) above below = grow-front x y older below.0
grow-between x (y ∷ newer) older above below = grow-later x y (newer ++ older) above.0 ∙ ap (λ l. y ∷ l) (grow-between x newer older above.1 below)

-- to put a version at its place is to add it
pub newest_first-insert : (xs : List Version) (x : Version) (i : ℕ) → AllBelow x.number (take i xs) → AllFrom x.number (drop i xs)
    → newest_first (insert xs i x) ≡ grow x (newest_first xs)
newest_first-insert xs x i before behind =
    newest_first-at (take i xs) x (drop i xs)
    ∙ sym (grow-between x (newest_first (drop i xs)) (newest_first (take i xs)) (AllFrom-newest_first x.number (drop i xs) behind) (AllBelow-newest_first x.number (take i xs) before))
    ∙ ap (grow x) (sym (newest_first-append (take i xs) (drop i xs)) ∙ ap newest_first (take-append-drop i xs))
