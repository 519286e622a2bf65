-- A list is determined by being in order and keeping what the order does not tell apart as it stood: a stable sort is `sorted`.
use Rattle.std.proofs.Common.{◌≡◌, ℕ, suc, ◌+◌, ◌<◌, Bool, true, false, not, List, [], ◌∷◌, length, filter, get_or, arith, refl, sym, ap, subst, ◌∙◌}
use Rattle.std.proofs.Math.Bool.{false≢true}
use Rattle.std.proofs.lemmas.Bool.{and_parts, not-true}
use Rattle.std.proofs.lemmas.Cmp.{on_total, then_total, back_total}
use Rattle.std.proofs.lemmas.List.Sorted.{sorted_far}
use Rattle.std.specs.Cmp.{IsStrictWeakOrder, IsTotalOrder}
use Rattle.std.specs.List.Sorted.{IsSortedBy, IsStableBy, ties}
use Rattle.std.specs.declared.cmp.Ordering.TheVariants.{Equal}
use Rattle.wm_base.specs.declared.value.Value.{Value}
use Rattle.wm_ordering.specs.Orders.{ascending_total}
use Rattle.wm_ordering.specs.Sorting.{directed, by_directions, first_value, other_values, placed, sorted}

-- ---- the orders are total

directed_total : (descending : Bool) → IsTotalOrder (directed descending)
directed_total true = back_total ascending_total
directed_total false = ascending_total

always_equal : IsTotalOrder (λ (vs ws : List Value). Equal)
always_equal = record { antisymm = λ vs ws. refl; trans = λ vs ws us p q. cc; congr = λ vs ws us p. refl }

pub by_directions_total : (directions : List Bool) → IsTotalOrder (by_directions directions)
by_directions_total [] = always_equal
by_directions_total (d ∷ ds) = then_total (on_total first_value (directed_total d)) (on_total other_values (by_directions_total ds))

-- ---- lists in order

-- none of the others stands before the element
abbrev pub Above : {X : Type 0} → (X → X → Bool) → X → List X → Type 0
Above lt y [] = Unit {0}
Above lt y (z ∷ zs) = (lt z y ≡ false) × Above lt y zs

abbrev pub Rises : {X : Type 0} → (X → X → Bool) → List X → Type 0
Rises lt [] = Unit {0}
Rises lt (y ∷ ys) = Above lt y ys × Rises lt ys

above_each : {X : Type 0} (lt : X → X → Bool) (y : X) (zs : List X) → ((k : ℕ) (d : X) → k < length zs → lt (get_or zs k d) y ≡ false) → Above lt y zs
above_each lt y [] each = tt
above_each lt y (z ∷ zs) each = (each 0 z (omega arith), above_each lt y zs (λ k d h. each (suc k) d (omega (arith, h))))

sorted_tail : {X : Type 0} (lt : X → X → Bool) (y : X) (ys : List X) → IsSortedBy lt (y ∷ ys) → IsSortedBy lt ys
sorted_tail lt y ys up k d low h =
    let next : lt (get_or (y ∷ ys) (suc k + 1) d) (get_or (y ∷ ys) (suc k) d) ≡ false = up (suc k) d (omega arith) (let inside : k + 1 < length ys = h in omega (arith, inside)) in
    subst (λ n. lt (get_or (y ∷ ys) n d) (get_or ys k d) ≡ false) (let e : suc k + 1 ≡ suc (k + 1) = omega arith in e) next

rises_from : {X : Type 0} (lt : X → X → Bool) → IsStrictWeakOrder lt → (ys : List X) → IsSortedBy lt ys → Rises lt ys
rises_from lt o [] up = tt
rises_from lt o (y ∷ ys) up =
    (above_each lt y ys (λ k d h. sorted_far lt o (y ∷ ys) up 0 (suc k) d (omega arith) (omega (arith, h))), rises_from lt o ys (sorted_tail lt y ys up))

above_chain : {X : Type 0} (lt : X → X → Bool) → IsStrictWeakOrder lt → (x z : X) (zs : List X) → Above lt z zs → lt z x ≡ false → Above lt x zs
above_chain lt o x z [] above e = tt
above_chain lt o x z (w ∷ ws) above e = (o.chain w z x above.0 e, above_chain lt o x z ws above.1 e)

above_placed : {X : Type 0} (lt : X → X → Bool) (x y : X) (zs : List X) → lt x y ≡ false → Above lt y zs → Above lt y (placed lt x zs)
above_placed lt x y [] e above = (e, tt)
above_placed {X} lt x y (z ∷ zs) e above = by_test (lt z x) refl (above_placed lt x y zs e above.1)
  where
    by_test : (b : Bool) → lt z x ≡ b → Above lt y (placed lt x zs) → Above lt y (placed lt x (z ∷ zs))
    by_test true t rest = rw t (above.0, rest)
    by_test false t rest = rw t (e, (above.0, above.1))

rises_placed : {X : Type 0} (lt : X → X → Bool) → IsStrictWeakOrder lt → (x : X) (ys : List X) → Rises lt ys → Rises lt (placed lt x ys)
rises_placed lt o x [] rises = (tt, tt)
rises_placed {X} lt o x (y ∷ ys) rises = by_test (lt y x) refl (rises_placed lt o x ys rises.1)
  where
    by_test : (b : Bool) → lt y x ≡ b → Rises lt (placed lt x ys) → Rises lt (placed lt x (y ∷ ys))
    by_test true t rest = rw t (above_placed lt x y ys (o.one_way y x t) rises.0, rest)
    by_test false t rest = rw t ((t, above_chain lt o x y ys rises.0 t), (rises.0, rises.1))

pub rises_sorted : {X : Type 0} (lt : X → X → Bool) → IsStrictWeakOrder lt → (xs : List X) → Rises lt (sorted lt xs)
rises_sorted lt o [] = tt
rises_sorted lt o (x ∷ xs) = rises_placed lt o x (sorted lt xs) (rises_sorted lt o xs)

-- ---- what the order does not tell apart

not_before_itself : {X : Type 0} (lt : X → X → Bool) → IsStrictWeakOrder lt → (x : X) → lt x x ≡ false
not_before_itself {X} lt o x = by_test (lt x x) refl
  where
    by_test : (b : Bool) → lt x x ≡ b → lt x x ≡ false
    by_test true e = o.one_way x x e
    by_test false e = e

ties_itself : {X : Type 0} (lt : X → X → Bool) → IsStrictWeakOrder lt → (x : X) → ties lt x x ≡ true
ties_itself lt o x = rw (not_before_itself lt o x)

-- what ties with one element does not stand before another that ties with it
tied_apart : {X : Type 0} (lt : X → X → Bool) → IsStrictWeakOrder lt → (w x y : X) → ties lt w y ≡ true → ties lt w x ≡ true → lt y x ≡ false
tied_apart lt o w x y ey ex =
    let py = and_parts (not (lt w y)) (not (lt y w)) ey in
    let px = and_parts (not (lt w x)) (not (lt x w)) ex in
    o.chain y w x (not-true (lt y w) py.1) (not-true (lt w x) px.0)

-- what passes a test stays as it stood where the order does not tell it apart
filter_placed : {X : Type 0} (lt : X → X → Bool) (p : X → Bool) → ((x y : X) → p x ≡ true → p y ≡ true → lt y x ≡ false) → (x : X) (ys : List X) → filter p (placed lt x ys) ≡ filter p (x ∷ ys)
filter_placed lt p tied x [] = refl
filter_placed {X} lt p tied x (y ∷ ys) = by_test (lt y x) refl (filter_placed lt p tied x ys)
  where
    by_tests : (a b : Bool) → p y ≡ a → p x ≡ b → lt y x ≡ true → filter p (placed lt x ys) ≡ filter p (x ∷ ys) → filter p (y ∷ placed lt x ys) ≡ filter p (x ∷ y ∷ ys)
    by_tests true true ey ex t rest = absurd (false≢true (sym (tied x y ex ey) ∙ t))
    by_tests true false ey ex t rest =
        let short : filter p (x ∷ ys) ≡ filter p ys = rw ex in
        let one : filter p (y ∷ placed lt x ys) ≡ y ∷ filter p (placed lt x ys) = rw ey in
        let other : filter p (x ∷ y ∷ ys) ≡ y ∷ filter p ys = rw (ex, ey) in
        one ∙ ap (λ zs. y ∷ zs) (rest ∙ short) ∙ sym other
    by_tests false b ey ex t rest =
        let one : filter p (y ∷ placed lt x ys) ≡ filter p (placed lt x ys) = rw ey in
        let inner : filter p (y ∷ ys) ≡ filter p ys = rw ey in
        one ∙ rest ∙ same_front b ex (sym inner)
      where
        same_front : (b : Bool) → p x ≡ b → filter p ys ≡ filter p (y ∷ ys) → filter p (x ∷ ys) ≡ filter p (x ∷ y ∷ ys)
        same_front true ex e = let one : filter p (x ∷ ys) ≡ x ∷ filter p ys = rw ex in let other : filter p (x ∷ y ∷ ys) ≡ x ∷ filter p (y ∷ ys) = rw ex in one ∙ ap (λ zs. x ∷ zs) e ∙ sym other
        same_front false ex e = let one : filter p (x ∷ ys) ≡ filter p ys = rw ex in let other : filter p (x ∷ y ∷ ys) ≡ filter p (y ∷ ys) = rw ex in one ∙ e ∙ sym other

    by_test : (b : Bool) → lt y x ≡ b → filter p (placed lt x ys) ≡ filter p (x ∷ ys) → filter p (placed lt x (y ∷ ys)) ≡ filter p (x ∷ y ∷ ys)
    by_test true t rest = let front : placed lt x (y ∷ ys) ≡ y ∷ placed lt x ys = rw t in ap (λ zs. filter p zs) front ∙ by_tests (p y) (p x) refl refl t rest
    by_test false t rest = let front : placed lt x (y ∷ ys) ≡ x ∷ y ∷ ys = rw t in ap (λ zs. filter p zs) front

pub filter_in_order : {X : Type 0} (lt : X → X → Bool) (p : X → Bool) → ((x y : X) → p x ≡ true → p y ≡ true → lt y x ≡ false) → (xs : List X) → filter p (sorted lt xs) ≡ filter p xs
filter_in_order lt p tied [] = refl
filter_in_order {X} lt p tied (x ∷ xs) = filter_placed lt p tied x (sorted lt xs) ∙ same_behind (p x) refl (filter_in_order lt p tied xs)
  where
    same_behind : (b : Bool) → p x ≡ b → filter p (sorted lt xs) ≡ filter p xs → filter p (x ∷ sorted lt xs) ≡ filter p (x ∷ xs)
    same_behind true e rest = rw e (ap (λ zs. x ∷ zs) rest)
    same_behind false e rest = rw e rest

filter_sorted : {X : Type 0} (lt : X → X → Bool) → IsStrictWeakOrder lt → (w : X) (xs : List X) → filter (ties lt w) (sorted lt xs) ≡ filter (ties lt w) xs
filter_sorted lt o w xs = filter_in_order lt (ties lt w) (λ x y ex ey. tied_apart lt o w x y ey ex) xs

-- ---- one order

-- the first that passes a test, of elements above one, does not stand before it
above_filter : {X : Type 0} (lt : X → X → Bool) (p : X → Bool) (z y : X) (zs rest : List X) → Above lt z zs → filter p zs ≡ y ∷ rest → lt y z ≡ false
above_filter lt p z y [] rest above e = cc
above_filter {X} lt p z y (w ∷ ws) rest above e = by_test (p w) refl (above_filter lt p z y ws rest above.1)
  where
    by_test : (b : Bool) → p w ≡ b → (filter p ws ≡ y ∷ rest → lt y z ≡ false) → lt y z ≡ false
    by_test true t next = let head : w ∷ filter p ws ≡ y ∷ rest = sym (rw t) ∙ e in let same : w ≡ y = cc in subst (λ v. lt v z ≡ false) same above.0
    by_test false t next = next (let skip : filter p (w ∷ ws) ≡ filter p ws = rw t in sym skip ∙ e)

heads_one : {X : Type 0} (lt : X → X → Bool) → IsStrictWeakOrder lt → (y z : X) (ys zs : List X) → Above lt y ys → Above lt z zs → ((w : X) → filter (ties lt w) (y ∷ ys) ≡ filter (ties lt w) (z ∷ zs)) → y ≡ z
heads_one {X} lt o y z ys zs above_y above_z alike = by_tests (lt y z) (lt z y) refl refl
  where
    of_y : filter (ties lt y) (y ∷ ys) ≡ y ∷ filter (ties lt y) ys
    of_y = rw (ties_itself lt o y)

    of_z : filter (ties lt z) (z ∷ zs) ≡ z ∷ filter (ties lt z) zs
    of_z = rw (ties_itself lt o z)

    by_tests : (a b : Bool) → lt y z ≡ a → lt z y ≡ b → y ≡ z
    by_tests false false a b =
        let tied : ties lt y z ≡ true = rw (a, b) in
        let front : filter (ties lt y) (z ∷ zs) ≡ z ∷ filter (ties lt y) zs = rw tied in
        let both : y ∷ filter (ties lt y) ys ≡ z ∷ filter (ties lt y) zs = sym of_y ∙ alike y ∙ front in
        cc
    by_tests true b a eb =
        let apart : ties lt y z ≡ false = rw a in
        let skip : filter (ties lt y) (z ∷ zs) ≡ filter (ties lt y) zs = rw apart in
        let has : filter (ties lt y) zs ≡ y ∷ filter (ties lt y) ys = sym skip ∙ sym (alike y) ∙ of_y in
        absurd (false≢true (sym (above_filter lt (ties lt y) z y zs (filter (ties lt y) ys) above_z has) ∙ a))
    by_tests false true a b =
        let apart : ties lt z y ≡ false = rw b in
        let skip : filter (ties lt z) (y ∷ ys) ≡ filter (ties lt z) ys = rw apart in
        let has : filter (ties lt z) ys ≡ z ∷ filter (ties lt z) zs = sym skip ∙ alike z ∙ of_z in
        absurd (false≢true (sym (above_filter lt (ties lt z) y z ys (filter (ties lt z) zs) above_y has) ∙ b))

tails_alike : {X : Type 0} (lt : X → X → Bool) (w y : X) (ys zs : List X) → filter (ties lt w) (y ∷ ys) ≡ filter (ties lt w) (y ∷ zs) → filter (ties lt w) ys ≡ filter (ties lt w) zs
tails_alike {X} lt w y ys zs e = by_test (ties lt w y) refl
  where
    by_test : (b : Bool) → ties lt w y ≡ b → filter (ties lt w) ys ≡ filter (ties lt w) zs
    by_test true t =
        let one : filter (ties lt w) (y ∷ ys) ≡ y ∷ filter (ties lt w) ys = rw t in
        let other : filter (ties lt w) (y ∷ zs) ≡ y ∷ filter (ties lt w) zs = rw t in
        let both : y ∷ filter (ties lt w) ys ≡ y ∷ filter (ties lt w) zs = sym one ∙ e ∙ other in
        cc
    by_test false t =
        let one : filter (ties lt w) (y ∷ ys) ≡ filter (ties lt w) ys = rw t in
        let other : filter (ties lt w) (y ∷ zs) ≡ filter (ties lt w) zs = rw t in
        sym one ∙ e ∙ other

-- lists in order that keep the same of what the order does not tell apart are one
pub one_order : {X : Type 0} (lt : X → X → Bool) → IsStrictWeakOrder lt → (ys zs : List X) → Rises lt ys → Rises lt zs → ((w : X) → filter (ties lt w) ys ≡ filter (ties lt w) zs) → ys ≡ zs
one_order lt o [] [] up down alike = refl
one_order lt o [] (z ∷ zs) up down alike =
    let of_z : filter (ties lt z) (z ∷ zs) ≡ z ∷ filter (ties lt z) zs = rw (ties_itself lt o z) in
    let none : [] ≡ z ∷ filter (ties lt z) zs = alike z ∙ of_z in
    cc
one_order lt o (y ∷ ys) [] up down alike =
    let of_y : filter (ties lt y) (y ∷ ys) ≡ y ∷ filter (ties lt y) ys = rw (ties_itself lt o y) in
    let none : y ∷ filter (ties lt y) ys ≡ [] = sym of_y ∙ alike y in
    cc
one_order lt o (y ∷ ys) (z ∷ zs) up down alike =
    let head : y ≡ z = heads_one lt o y z ys zs up.0 down.0 alike in
    let tail : ys ≡ zs = one_order lt o ys zs up.1 down.1 (λ w. tails_alike lt w y ys zs (subst (λ v. filter (ties lt w) (y ∷ ys) ≡ filter (ties lt w) (v ∷ zs)) (sym head) (alike w))) in
    λ i. head i ∷ tail i

-- what is in order, and keeps what the order does not tell apart as it stood, is `sorted`
pub sorted_is : {X : Type 0} (lt : X → X → Bool) → IsStrictWeakOrder lt → (xs ys : List X) → IsSortedBy lt ys → IsStableBy lt xs ys → ys ≡ sorted lt xs
sorted_is lt o xs ys up stable = one_order lt o ys (sorted lt xs) (rises_from lt o ys up) (rises_sorted lt o xs) (λ w. stable w ∙ sym (filter_sorted lt o w xs))
