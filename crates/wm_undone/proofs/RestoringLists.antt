-- Lists of which some elements went: what is found among those that stay, and the order of those.
use Rattle.std.proofs.Common.{◌≡◌, ℕ, zero, suc, nat_lt, nat_le, Bool, true, false, ◌&&◌, cond, List, [], ◌∷◌, map, length, take, Option, Some, None, refl, sym, ap, ◌∙◌, arith}
use Rattle.std.proofs.lemmas.Bool.Decides.{nat_tests}
use Rattle.std.proofs.lemmas.List.Sums.{length-filter}
use Rattle.std.proofs.lemmas.Bool.{and_from, and_parts, true≢false}
use Rattle.std.specs.List.{count_by, filter, find, list_all, slice_get}
use Rattle.wm_base.proofs.Plain.{nat_le-itself, nat_lt-zero}
use Rattle.wm_graph.specs.Rules.{differ}
use Rattle.wm_spec.specs.declared.record.savepoint.Savepoint.{Savepoint as Record}
use Rattle.wm_state.specs.Standing.{by_making, place_making}
use Rattle.wm_state.proofs.Mapped.{find-else, find-filter, find-passes}
use Rattle.wm_state.proofs.Tests.{all_filter, all_if}

-- ---- what is found

-- an element that does not stay fails a test that only such pass as stay
not_passed : (b c : Bool) → (b ≡ true → c ≡ true) → c ≡ false → b ≡ false
not_passed true c keep out = absurd (true≢false (sym (keep refl) ∙ out))
not_passed false c keep out = refl

-- what is found among those that stay was found, and stays, where no two differ that pass
pub found-left : {A : Type 0} (k P : A → Bool) (same : A → A → Bool) → ((x y : A) → P x ≡ true → P y ≡ true → same x y ≡ true) → (xs : List A) (x : A) → differ same xs ≡ true → find P (filter k xs) ≡ Some x
    → (find P xs ≡ Some x) × (k x ≡ true)
found-left k P same as_one xs x apart found =
    let is : find (λ y. k y && P y) xs ≡ Some x = sym (find-filter k P xs) ∙ found in
    let h = and_parts (k x) (P x) (find-passes (λ y. k y && P y) xs x is) in
    (find-else P (λ y. k y && P y) same as_one xs x apart is h.1, h.0)

-- where all stay that pass, the same is found
pub find-left : {A : Type 0} (k P : A → Bool) → ((x : A) → P x ≡ true → k x ≡ true) → (xs : List A) → find P (filter k xs) ≡ find P xs
find-left k P keep [] = refl
find-left k P keep (x ∷ xs) = by_test (k x) refl (find-left k P keep xs)
  where
    by_test : (b : Bool) → k x ≡ b → find P (filter k xs) ≡ find P xs → find P (cond b (x ∷ filter k xs) (filter k xs)) ≡ find P (x ∷ xs)
    by_test true e rest = ap (λ o. cond (P x) (Some x) o) rest
    by_test false e rest = rw (not_passed (P x) (k x) (keep x) e) rest

-- where none stays that passes, nothing is found
pub find-gone : {A : Type 0} (k P : A → Bool) → ((x : A) → P x ≡ true → k x ≡ false) → (xs : List A) → find P (filter k xs) ≡ None
find-gone k P gone [] = refl
find-gone k P gone (x ∷ xs) = by_test (k x) refl (find-gone k P gone xs)
  where
    fails : (b c : Bool) → (b ≡ true → c ≡ false) → c ≡ true → b ≡ false
    fails true c out is = absurd (true≢false (sym is ∙ out refl))
    fails false c out is = refl

    by_test : (b : Bool) → k x ≡ b → find P (filter k xs) ≡ None → find P (cond b (x ∷ filter k xs) (filter k xs)) ≡ None
    by_test true e rest = rw (fails (P x) (k x) (gone x) e) rest
    by_test false e rest = rest

-- ---- those that pass one test and another

-- where all stay that pass, those that pass are the same
pub filter-left : {A : Type 0} (P k : A → Bool) → ((x : A) → P x ≡ true → k x ≡ true) → (xs : List A) → filter P (filter k xs) ≡ filter P xs
filter-left P k keep [] = refl
filter-left P k keep (x ∷ xs) = by_test (k x) refl (filter-left P k keep xs)
  where
    by_test : (b : Bool) → k x ≡ b → filter P (filter k xs) ≡ filter P xs → filter P (cond b (x ∷ filter k xs) (filter k xs)) ≡ filter P (x ∷ xs)
    by_test true e rest = ap (λ ys. cond (P x) (x ∷ ys) ys) rest
    by_test false e rest = rw (not_passed (P x) (k x) (keep x) e) rest

-- where those that pass stay by another test, that may be tried behind
pub filter-under : {A : Type 0} (P k j : A → Bool) → ((x : A) → P x ≡ true → k x ≡ j x) → (xs : List A) → filter P (filter k xs) ≡ filter j (filter P xs)
filter-under P k j same [] = refl
filter-under {A = A} P k j same (x ∷ xs) = by_test (P x) refl (filter-under P k j same xs)
  where
    inside : P x ≡ true → (c : Bool) → k x ≡ c → filter P (filter k xs) ≡ filter j (filter P xs) → filter P (cond c (x ∷ filter k xs) (filter k xs)) ≡ filter j (x ∷ filter P xs)
    inside e true f rest = rw (e, sym (same x e) ∙ f) (ap (λ ys. x ∷ ys) rest)
    inside e false f rest = rw (sym (same x e) ∙ f) rest

    outside : P x ≡ false → (c : Bool) → filter P (filter k xs) ≡ filter j (filter P xs) → filter P (cond c (x ∷ filter k xs) (filter k xs)) ≡ filter j (filter P xs)
    outside e true rest = rw e rest
    outside e false rest = rest

    by_test : (b : Bool) → P x ≡ b → filter P (filter k xs) ≡ filter j (filter P xs) → filter P (filter k (x ∷ xs)) ≡ filter j (cond b (x ∷ filter P xs) (filter P xs))
    by_test true e rest = inside e (k x) refl rest
    by_test false e rest = outside e (k x) rest

-- ---- tests of those that stay

-- what passes and stays passes another test
pub all_left : {A : Type 0} (k P Q : A → Bool) → ((x : A) → k x ≡ true → P x ≡ true → Q x ≡ true) → (xs : List A) → list_all P xs ≡ true → list_all Q (filter k xs) ≡ true
all_left k P Q to [] all = refl
all_left k P Q to (x ∷ xs) all = by_test (k x) refl (and_parts (P x) (list_all P xs) all) (all_left k P Q to xs)
  where
    by_test : (b : Bool) → k x ≡ b → (P x ≡ true) × (list_all P xs ≡ true) → (list_all P xs ≡ true → list_all Q (filter k xs) ≡ true) → list_all Q (cond b (x ∷ filter k xs) (filter k xs)) ≡ true
    by_test true e h rest = and_from (Q x) (list_all Q (filter k xs)) (to x e h.0) (rest h.1)
    by_test false e h rest = rest h.1

-- no more of them pass
pub fewer : {A : Type 0} (k P : A → Bool) (most : ℕ) (xs : List A) → nat_le (count_by P xs) most ≡ true → nat_le (count_by P (filter k xs)) most ≡ true
fewer {A = A} k P most xs few = le (count_by P (filter k xs)) (count_by P xs) (count_le xs) few
  where
    le : (m n : ℕ) → nat_le m n ≡ true → nat_le n most ≡ true → nat_le m most ≡ true
    le m n one two = grind (arith, one, two)

    count_le : (ys : List A) → nat_le (count_by P (filter k ys)) (count_by P ys) ≡ true
    count_le ys = ap (λ m. nat_le m (count_by P ys)) (sym (length-filter P (filter k ys))) ∙ ap (nat_le (length (filter P (filter k ys)))) (sym (length-filter P ys)) ∙ length_le ys
      where
        more : (m n : ℕ) → nat_le m n ≡ true → nat_le m (suc n) ≡ true
        more m n e = grind (arith, e)

        next : (m n : ℕ) → nat_le m n ≡ true → nat_le (suc m) (suc n) ≡ true
        next m n e = grind (arith, e)

        length_le : (zs : List A) → nat_le (length (filter P (filter k zs))) (length (filter P zs)) ≡ true
        length_le [] = nat_le-itself 0
        length_le (z ∷ zs) = by_test (k z) (P z) refl (length_le zs)
          where
            by_test : (b c : Bool) → P z ≡ c → nat_le (length (filter P (filter k zs))) (length (filter P zs)) ≡ true
                → nat_le (length (filter P (cond b (z ∷ filter k zs) (filter k zs)))) (length (cond c (z ∷ filter P zs) (filter P zs))) ≡ true
            by_test true true e rest = rw e (next (length (filter P (filter k zs))) (length (filter P zs)) rest)
            by_test true false e rest = rw e rest
            by_test false true e rest = more (length (filter P (filter k zs))) (length (filter P zs)) rest
            by_test false false e rest = rest

-- ---- two lists of one image

filter_map_at : {A C : Type 0} (f : A → C) (P : C → Bool) (xs : List A) → map f (filter (λ x. P (f x)) xs) ≡ filter P (map f xs)
filter_map_at f P [] = refl
filter_map_at f P (x ∷ xs) = by_test (P (f x)) (filter_map_at f P xs)
  where
    by_test : (b : Bool) → map f (filter (λ y. P (f y)) xs) ≡ filter P (map f xs)
        → map f (cond b (x ∷ filter (λ y. P (f y)) xs) (filter (λ y. P (f y)) xs)) ≡ cond b (f x ∷ filter P (map f xs)) (filter P (map f xs))
    by_test true rest = ap (λ ys. f x ∷ ys) rest
    by_test false rest = rest

-- those that stay by a test of the image are of one image still
pub filter-alike : {A B C : Type 0} (f : A → C) (g : B → C) (P : C → Bool) (xs : List A) (ys : List B) → map f xs ≡ map g ys → map f (filter (λ x. P (f x)) xs) ≡ map g (filter (λ y. P (g y)) ys)
filter-alike f g P xs ys same = filter_map_at f P xs ∙ ap (filter P) same ∙ sym (filter_map_at g P ys)

-- ---- records by making

-- all were made at this making or later
abbrev made_from : ℕ → List Record → Bool
made_from making xs = list_all (λ (y : Record). nat_le making y.making) xs

-- each was made no later than those behind it
abbrev are_sorted : List Record → Bool
are_sorted [] = true
are_sorted (x ∷ xs) = made_from x.making xs && are_sorted xs

not_less : (m n : ℕ) → nat_le m n ≡ true → nat_lt n m ≡ false
not_less m n le = grind (arith, le)

not_more : (m n : ℕ) → nat_lt n m ≡ false → nat_le m n ≡ true
not_more m n e = grind (arith, e)

le_of_less : (m n : ℕ) → nat_lt m n ≡ true → nat_le m n ≡ true
le_of_less m n lt = grind (arith, lt)

le_over : (m n : ℕ) → nat_le m n ≡ true → (i : ℕ) → nat_le n i ≡ true → nat_le m i ≡ true
le_over m n le i more = grind (arith, le, more)

place_first : (x : Record) (ys : List Record) → made_from x.making ys ≡ true → place_making x ys ≡ x ∷ ys
place_first x [] e = refl
place_first x (y ∷ ys) e = rw (not_less x.making y.making (and_parts (nat_le x.making y.making) (made_from x.making ys) e).0) refl

place_from : (making : ℕ) (x : Record) (ys : List Record) → nat_le making x.making ≡ true → made_from making ys ≡ true → made_from making (place_making x ys) ≡ true
place_from making x [] is all = and_from (nat_le making x.making) true is refl
place_from making x (y ∷ ys) is all = by_test (nat_lt y.making x.making) (and_parts (nat_le making y.making) (made_from making ys) all) (place_from making x ys is)
  where
    by_test : (b : Bool) → (nat_le making y.making ≡ true) × (made_from making ys ≡ true) → (made_from making ys ≡ true → made_from making (place_making x ys) ≡ true)
        → made_from making (cond b (y ∷ place_making x ys) (x ∷ y ∷ ys)) ≡ true
    by_test true h rest = and_from (nat_le making y.making) (made_from making (place_making x ys)) h.0 (rest h.1)
    by_test false h rest = and_from (nat_le making x.making) (made_from making (y ∷ ys)) is all

place_sorted : (x : Record) (ys : List Record) → are_sorted ys ≡ true → are_sorted (place_making x ys) ≡ true
place_sorted x [] e = refl
place_sorted x (y ∷ ys) e = by_test (nat_lt y.making x.making) refl (and_parts (made_from y.making ys) (are_sorted ys) e) (place_sorted x ys)
  where
    by_test : (b : Bool) → nat_lt y.making x.making ≡ b → (made_from y.making ys ≡ true) × (are_sorted ys ≡ true) → (are_sorted ys ≡ true → are_sorted (place_making x ys) ≡ true)
        → are_sorted (cond b (y ∷ place_making x ys) (x ∷ y ∷ ys)) ≡ true
    by_test true lt h rest = and_from (made_from y.making (place_making x ys)) (are_sorted (place_making x ys)) (place_from y.making x ys (le_of_less y.making x.making lt) h.0) (rest h.1)
    by_test false ge h rest =
        let le = not_more x.making y.making ge in
        and_from (made_from x.making (y ∷ ys)) (are_sorted (y ∷ ys))
        (and_from (nat_le x.making y.making) (made_from x.making ys) le (all_if (λ (z : Record). nat_le y.making z.making) (λ (z : Record). nat_le x.making z.making) (λ z more. le_over x.making y.making le z.making more) ys h.0)) e

sorted : (xs : List Record) → are_sorted (by_making xs) ≡ true
sorted [] = refl
sorted (x ∷ xs) = place_sorted x (by_making xs) (sorted xs)

place_out : (P : Record → Bool) (x : Record) (ys : List Record) → P x ≡ false → filter P (place_making x ys) ≡ filter P ys
place_out P x [] out = rw out refl
place_out P x (y ∷ ys) out = by_test (nat_lt y.making x.making) (place_out P x ys out)
  where
    by_test : (b : Bool) → filter P (place_making x ys) ≡ filter P ys → filter P (cond b (y ∷ place_making x ys) (x ∷ y ∷ ys)) ≡ filter P (y ∷ ys)
    by_test true rest = ap (λ zs. cond (P y) (y ∷ zs) zs) rest
    by_test false rest = rw out refl

place_in : (P : Record → Bool) (x : Record) (ys : List Record) → P x ≡ true → are_sorted ys ≡ true → filter P (place_making x ys) ≡ place_making x (filter P ys)
place_in P x [] is e = rw is refl
place_in P x (y ∷ ys) is e = by_test (nat_lt y.making x.making) refl (P y) refl (place_in P x ys is h.1)
  where
    h : (made_from y.making ys ≡ true) × (are_sorted ys ≡ true)
    h = and_parts (made_from y.making ys) (are_sorted ys) e

    behind : nat_lt y.making x.making ≡ false → made_from x.making (filter P ys) ≡ true
    behind ge = all_filter (λ (z : Record). nat_le x.making z.making) P ys
        (all_if (λ (z : Record). nat_le y.making z.making) (λ (z : Record). nat_le x.making z.making) (λ z more. le_over x.making y.making (not_more x.making y.making ge) z.making more) ys h.0)

    by_test : (b : Bool) → nat_lt y.making x.making ≡ b → (c : Bool) → P y ≡ c → filter P (place_making x ys) ≡ place_making x (filter P ys)
        → filter P (cond b (y ∷ place_making x ys) (x ∷ y ∷ ys)) ≡ place_making x (cond c (y ∷ filter P ys) (filter P ys))
    by_test true lt true f rest = rw (f, lt) (ap (λ zs. y ∷ zs) rest)
    by_test true lt false f rest = rw f rest
    by_test false ge true f rest = rw (is, f, ge) refl
    by_test false ge false f rest = rw (is, f) (sym (place_first x (filter P ys) (behind ge)))

-- those that stay are in the order in which all are
pub making-filter : (P : Record → Bool) (xs : List Record) → by_making (filter P xs) ≡ filter P (by_making xs)
making-filter P [] = refl
making-filter P (x ∷ xs) = by_test (P x) refl (making-filter P xs)
  where
    by_test : (b : Bool) → P x ≡ b → by_making (filter P xs) ≡ filter P (by_making xs) → by_making (cond b (x ∷ filter P xs) (filter P xs)) ≡ filter P (place_making x (by_making xs))
    by_test true e rest = ap (place_making x) rest ∙ sym (place_in P x (by_making xs) e (sorted xs))
    by_test false e rest = rest ∙ sym (place_out P x (by_making xs) e)

-- ---- the front of a list

pub slice_get-take : {A : Type 0} (many : ℕ) (xs : List A) (i : ℕ) → slice_get (take many xs) i ≡ cond (nat_lt i many) (slice_get xs i) None
slice_get-take {A = A} zero xs i = ap (λ b. cond b (slice_get xs i) None) (sym (nat_lt-zero i))
slice_get-take {A = A} (suc many) [] i = by_test (nat_lt i (suc many))
  where
    by_test : (b : Bool) → (let nothing : Option A = None in nothing) ≡ cond b None None
    by_test true = refl
    by_test false = refl
slice_get-take (suc many) (x ∷ xs) zero = ap (λ b. cond b (Some x) None) (sym (first_less many))
  where
    first_less : (m : ℕ) → nat_lt 0 (suc m) ≡ true
    first_less m = grind arith
slice_get-take (suc many) (x ∷ xs) (suc i) = slice_get-take many xs i ∙ ap (λ b. cond b (slice_get xs i) None) (less_next i many)
  where
    less_next : (m n : ℕ) → nat_lt m n ≡ nat_lt (suc m) (suc n)
    less_next m n = grind (arith, nat_tests)

-- the front of a front
pub take-take : {A : Type 0} (few many : ℕ) → nat_le few many ≡ true → (xs : List A) → take few (take many xs) ≡ take few xs
take-take zero many le xs = refl
take-take (suc few) zero le xs = absurd (none_less few le)
  where
    none_less : (m : ℕ) → nat_le (suc m) 0 ≡ true → ⊥
    none_less m e = grind (arith, e)
take-take (suc few) (suc many) le [] = refl
take-take (suc few) (suc many) le (x ∷ xs) = ap (λ ys. x ∷ ys) (take-take few many (less few many le) xs)
  where
    less : (m n : ℕ) → nat_le (suc m) (suc n) ≡ true → nat_le m n ≡ true
    less m n e = grind (arith, e)
