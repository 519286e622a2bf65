-- Into how many stretches cells fall: the count by the first moments between cuts, and that it grows with the test and with what is cut.
use Rattle.std.proofs.Common.{◌≡◌, ℕ, ◌+◌, ◌≤◌, List, [], ◌∷◌, ◌++◌, map, length, Option, None, Some, is_some, Bool, true, false, cond, if◌then◌else◌, ◌&&◌, ◌||◌, ◌==◌, refl, sym, ap, ◌∙◌, arith, length-append}
use Rattle.std.proofs.lemmas.List.{length-map}
use Rattle.std.proofs.lemmas.List.Elements.{filter-append}
use Rattle.std.proofs.lemmas.List.Sums.{sum_by-cons, sum_by-append, length-filter}
use Rattle.std.specs.Bool.{then_some}
use Rattle.std.specs.List.{count_by, filter}
use Rattle.wm_spec.proofs.Stretches.{by_test}
use Rattle.wm_spec.specs.Lists.{Entry, Cell}
use Rattle.wm_spec.specs.Stretches.{cuts}
use Rattle.wm_net.specs.Counts.{never, first_cell, first_cells, cut_count}
use Rattle.wm_net.specs.Groups.{Group, cell, groups}
use Rattle.wm_net.specs.Listed.{Stretch, joined, onto, stretches, listed, stretches_of, listing}

-- ---- counts in a list

pub count-cons : {X : Type 0} (p : X → Bool) (x : X) (xs : List X) → count_by p (x ∷ xs) ≡ cond (p x) 1 0 + count_by p xs
count-cons p x xs = sum_by-cons (λ y. cond (p y) 1 0) x xs

pub count-append : {X : Type 0} (p : X → Bool) (xs ys : List X) → count_by p (xs ++ ys) ≡ count_by p xs + count_by p ys
count-append p xs ys = sum_by-append (λ y. cond (p y) 1 0) xs ys

-- what an element adds to a count
abbrev pub weight : Bool → ℕ
weight b = cond b 1 0

-- what passes more counts more
count-more : {X : Type 0} (p q : X → Bool) (xs : List X) → ((x : X) → p x ≡ true → q x ≡ true) → count_by p xs ≤ count_by q xs
count-more p q [] more = omega arith
count-more p q (x ∷ xs) more =
    let one = count-cons p x xs in
    let two = count-cons q x xs in
    let rest = count-more p q xs more in
    let first : cond (p x) 1 0 ≤ cond (q x) 1 0 = by_test (p x) (q x) (more x) in
    omega (arith, one, two, rest, first)
  where
    by_test : (a b : Bool) → (a ≡ true → b ≡ true) → cond a 1 0 ≤ cond b 1 0
    by_test true b h = rw (h refl) (omega arith)
    by_test false true h = omega arith
    by_test false false h = omega arith

-- two tests that nothing passes together
count-either : {X : Type 0} (p q : X → Bool) (xs : List X) → ((x : X) → p x ≡ true → q x ≡ false) → count_by p xs + count_by q xs ≤ count_by (λ x. p x || q x) xs
count-either p q [] apart = omega arith
count-either p q (x ∷ xs) apart =
    let one = count-cons p x xs in
    let two = count-cons q x xs in
    let both = count-cons (λ y. p y || q y) x xs in
    let rest = count-either p q xs apart in
    let first : cond (p x) 1 0 + cond (q x) 1 0 ≤ cond (p x || q x) 1 0 = by_test (p x) (q x) (apart x) in
    omega (arith, one, two, both, rest, first)
  where
    by_test : (a b : Bool) → (a ≡ true → b ≡ false) → cond a 1 0 + cond b 1 0 ≤ cond (a || b) 1 0
    by_test true b h = rw (h refl) (omega arith)
    by_test false true h = omega arith
    by_test false false h = omega arith

-- ---- first moments

-- the first moments between neighbouring cuts
abbrev pub firsts : ℕ → List ℕ → List ℕ
firsts low [] = []
firsts low (a ∷ cs) = low ∷ firsts a cs

-- the first cells between neighbouring cuts of groups
abbrev pub all_firsts : List Entry → List Group → List Cell
all_firsts es [] = []
all_firsts es (g ∷ gs) = map (cell g) (firsts 0 (cuts es g.table g.key)) ++ all_firsts es gs

joined-never : (from till : ℕ) (x : Bool) (ss : List (Stretch Bool)) → joined never from till x ss ≡ record { from = from; till = till; value = x } ∷ ss
joined-never from till x [] = refl
joined-never from till x (s ∷ ss) = by_test (till == s.from)
  where
    by_test : (b : Bool) → (if b && false then record { from = from; till = s.till; value = x } ∷ ss else record { from = from; till = till; value = x } ∷ s ∷ ss)
        ≡ record { from = from; till = till; value = x } ∷ s ∷ ss
    by_test true = refl
    by_test false = refl

-- of a group, those that pass the test
first_cells-group : (f : Cell → Bool) (g : Group) (low : ℕ) (cs : List ℕ)
    → map (first_cell g) (stretches never (λ t. then_some (f (cell g t)) true) low cs) ≡ filter f (map (cell g) (firsts low cs))
first_cells-group f g low [] = refl
first_cells-group f g low (a ∷ cs) = by_test (f (cell g low)) (first_cells-group f g a cs)
  where
    rest : List (Stretch Bool)
    rest = stretches never (λ t. then_some (f (cell g t)) true) a cs

    by_test : (b : Bool) → map (first_cell g) rest ≡ filter f (map (cell g) (firsts a cs))
        → map (first_cell g) (onto never low a (then_some b true) rest) ≡ cond b (cell g low ∷ filter f (map (cell g) (firsts a cs))) (filter f (map (cell g) (firsts a cs)))
    by_test true e = ap (map (first_cell g)) (joined-never low a true rest) ∙ ap (λ (xs : List Cell). cell g low ∷ xs) e
    by_test false e = e

pub first_cells-listed : (es : List Entry) (f : Cell → Bool) (gs : List Group)
    → listed first_cell (stretches_of never es (λ c. then_some (f c) true)) gs ≡ filter f (all_firsts es gs)
first_cells-listed es f [] = refl
first_cells-listed es f (g ∷ gs) =
    rw (first_cells-group f g 0 (cuts es g.table g.key), first_cells-listed es f gs)
    (sym (filter-append f (map (cell g) (firsts 0 (cuts es g.table g.key))) (all_firsts es gs)))

-- the stretches begin where a first moment passes the test
pub first_cells-are : (es : List Entry) (f : Cell → Bool) → first_cells es f ≡ filter f (all_firsts es (groups es))
first_cells-are es f = first_cells-listed es f (groups es)

pub cut_count-is : (es : List Entry) (f : Cell → Bool) → cut_count es f ≡ count_by f (all_firsts es (groups es))
cut_count-is es f = ap length (first_cells-are es f) ∙ length-filter f (all_firsts es (groups es))

-- ---- tests

-- a test that passes more cells counts no less
pub count_tests : (es : List Entry) (f g : Cell → Bool) → ((c : Cell) → f c ≡ true → g c ≡ true) → cut_count es f ≤ cut_count es g
count_tests es f g more = rw (cut_count-is es f, cut_count-is es g) (count-more f g (all_firsts es (groups es)) more)

-- two tests that no cell passes together count no more than their union
pub count_either : (es : List Entry) (f g : Cell → Bool) → ((c : Cell) → f c ≡ true → g c ≡ false)
    → cut_count es f + cut_count es g ≤ cut_count es (λ c. f c || g c)
count_either es f g apart =
    rw (cut_count-is es f, cut_count-is es g, cut_count-is es (λ c. f c || g c)) (count-either f g (all_firsts es (groups es)) apart)

-- ---- listings

-- joining only shortens
length-joined : {A : Type 0} (same : A → A → Bool) (from till : ℕ) (x : A) (ss : List (Stretch A)) → length (joined same from till x ss) ≤ 1 + length ss
length-joined same from till x [] = omega arith
length-joined same from till x (s ∷ ss) =
    by_test ((till == s.from) && same x s.value) (λ e. rw e (omega arith)) (λ e. rw e (omega arith))

length-onto : {A : Type 0} (same : A → A → Bool) (from till : ℕ) (o : Option A) (ss : List (Stretch A)) → length (onto same from till o ss) ≤ cond (is_some o) 1 0 + length ss
length-onto same from till None ss = omega arith
length-onto same from till (Some x) ss = length-joined same from till x ss

length-group : {A : Type 0} (same : A → A → Bool) (f : Cell → Option A) (g : Group) (low : ℕ) (cs : List ℕ)
    → length (stretches same (λ t. f (cell g t)) low cs) ≤ count_by (λ c. is_some (f c)) (map (cell g) (firsts low cs))
length-group same f g low [] = omega arith
length-group same f g low (a ∷ cs) =
    let one = length-onto same low a (f (cell g low)) (stretches same (λ t. f (cell g t)) a cs) in
    let two = count-cons (λ c. is_some (f c)) (cell g low) (map (cell g) (firsts a cs)) in
    let rest = length-group same f g a cs in
    omega (arith, one, two, rest)

length-listed : {A B : Type 0} (same : A → A → Bool) (entry : Group → Stretch A → B) (es : List Entry) (f : Cell → Option A) (gs : List Group)
    → length (listed entry (stretches_of same es f) gs) ≤ count_by (λ c. is_some (f c)) (all_firsts es gs)
length-listed same entry es f [] = omega arith
length-listed same entry es f (g ∷ gs) =
    let ss = stretches_of same es f g in
    let first = map (cell g) (firsts 0 (cuts es g.table g.key)) in
    let append = length-append (map (entry g) ss) (listed entry (stretches_of same es f) gs) in
    let mapped = length-map ss (entry g) in
    let counted = count-append (λ c. is_some (f c)) first (all_firsts es gs) in
    let one = length-group same f g 0 (cuts es g.table g.key) in
    let rest = length-listed same entry es f gs in
    omega (arith, append, mapped, counted, one, rest)

-- a listing is no longer than the cells at which its function gives something are cut
pub length-listing : {A B : Type 0} (same : A → A → Bool) (entry : Group → Stretch A → B) (es : List Entry) (f : Cell → Option A)
    → length (listing same entry es f) ≤ cut_count es (λ c. is_some (f c))
length-listing same entry es f = rw (cut_count-is es (λ c. is_some (f c))) (length-listed same entry es f (groups es))
