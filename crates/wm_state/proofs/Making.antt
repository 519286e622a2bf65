-- Records of savepoints by making.
use Rattle.std.proofs.Common.{◌≡◌, ℕ, suc, ◌==◌, nat_lt, Bool, true, false, not, cond, List, [], ◌∷◌, ◌++◌, length, Some, refl, sym, ap, ◌∙◌}
use Rattle.std.proofs.lemmas.Bool.{eq-eqb, eqb-true, ne_eqb, and_from, and_parts, not-true, or_parts, true≢false}
use Rattle.std.specs.List.{list_all, list_any, find}
use Rattle.wm_base.proofs.Plain.{nat_lt-turned}
use Rattle.wm_graph.specs.Rules.{differ}
use Rattle.wm_spec.specs.declared.record.savepoint.Savepoint.{Savepoint as Record}
use Rattle.wm_state.specs.Standing.{place_making, by_making}

-- ---- one that was made after all others comes last

place-before : (x y : Record) (ys : List Record) → nat_lt y.making x.making ≡ true → place_making y (ys ++ x ∷ []) ≡ place_making y ys ++ x ∷ []
place-before x y [] lt = rw (nat_lt-turned y.making x.making lt) refl
place-before x y (z ∷ zs) lt = by_test (nat_lt z.making y.making) (place-before x y zs lt)
  where
    by_test : (b : Bool) → place_making y (zs ++ x ∷ []) ≡ place_making y zs ++ x ∷ []
        → cond b (z ∷ place_making y (zs ++ x ∷ [])) (y ∷ z ∷ (zs ++ x ∷ [])) ≡ cond b (z ∷ place_making y zs) (y ∷ z ∷ zs) ++ x ∷ []
    by_test true rest = ap (λ xs. z ∷ xs) rest
    by_test false rest = refl

pub making-push : (x : Record) (xs : List Record) → list_all (λ (y : Record). nat_lt y.making x.making) xs ≡ true → by_making (xs ++ x ∷ []) ≡ by_making xs ++ x ∷ []
making-push x [] after = refl
making-push x (y ∷ ys) after =
    let h = and_parts (nat_lt y.making x.making) (list_all (λ (y : Record). nat_lt y.making x.making) ys) after in
    ap (place_making y) (making-push x ys h.1) ∙ place-before x y (by_making ys) h.0

-- ---- what holds of all, of none, and how many they are

length-place : (y : Record) (ys : List Record) → length (place_making y ys) ≡ length (y ∷ ys)
length-place y [] = refl
length-place y (z ∷ zs) = by_test (nat_lt z.making y.making) (length-place y zs)
  where
    by_test : (b : Bool) → length (place_making y zs) ≡ length (y ∷ zs) → length (cond b (z ∷ place_making y zs) (y ∷ z ∷ zs)) ≡ length (y ∷ z ∷ zs)
    by_test true rest = ap suc rest
    by_test false rest = refl

pub length-making : (xs : List Record) → length (by_making xs) ≡ length xs
length-making [] = refl
length-making (x ∷ xs) = length-place x (by_making xs) ∙ ap suc (length-making xs)

all-place : (P : Record → Bool) (y : Record) (ys : List Record) → P y ≡ true → list_all P ys ≡ true → list_all P (place_making y ys) ≡ true
all-place P y [] is all = and_from (P y) true is refl
all-place P y (z ∷ zs) is all = by_test (nat_lt z.making y.making) (and_parts (P z) (list_all P zs) all) (all-place P y zs is)
  where
    by_test : (b : Bool) → (P z ≡ true) × (list_all P zs ≡ true) → (list_all P zs ≡ true → list_all P (place_making y zs) ≡ true) → list_all P (cond b (z ∷ place_making y zs) (y ∷ z ∷ zs)) ≡ true
    by_test true h rest = and_from (P z) (list_all P (place_making y zs)) h.0 (rest h.1)
    by_test false h rest = and_from (P y) (list_all P (z ∷ zs)) is all

pub all-making : (P : Record → Bool) (xs : List Record) → list_all P xs ≡ true → list_all P (by_making xs) ≡ true
all-making P [] all = refl
all-making P (x ∷ xs) all = let h = and_parts (P x) (list_all P xs) all in all-place P x (by_making xs) h.0 (all-making P xs h.1)

any-place : (P : Record → Bool) (y : Record) (ys : List Record) → P y ≡ false → list_any P ys ≡ false → list_any P (place_making y ys) ≡ false
any-place P y [] is none = rw is refl
any-place P y (z ∷ zs) is none = by_test (nat_lt z.making y.making) (or_parts (P z) (list_any P zs) none) (any-place P y zs is)
  where
    by_test : (b : Bool) → (P z ≡ false) × (list_any P zs ≡ false) → (list_any P zs ≡ false → list_any P (place_making y zs) ≡ false) → list_any P (cond b (z ∷ place_making y zs) (y ∷ z ∷ zs)) ≡ false
    by_test true h rest = rw (h.0, rest h.1) refl
    by_test false h rest = rw (is, h.0, h.1) refl

any-making : (P : Record → Bool) (xs : List Record) → list_any P xs ≡ false → list_any P (by_making xs) ≡ false
any-making P [] none = refl
any-making P (x ∷ xs) none = let h = or_parts (P x) (list_any P xs) none in any-place P x (by_making xs) h.0 (any-making P xs h.1)

-- ---- makings that differ

-- two of one making
abbrev pub same_making : Record → Record → Bool
same_making x y = x.making == y.making

pub making-itself : (x : Record) → same_making x x ≡ true
making-itself x = eq-eqb x.making x.making refl

turned : (x y : Record) → same_making x y ≡ false → same_making y x ≡ false
turned x y e = ne_eqb _ _ (λ same. true≢false (sym (eq-eqb x.making y.making (sym same)) ∙ e))

differ-place : (y : Record) (ys : List Record) → list_any (same_making y) ys ≡ false → differ same_making ys ≡ true → differ same_making (place_making y ys) ≡ true
differ-place y [] none apart = refl
differ-place y (z ∷ zs) none apart =
    by_test (nat_lt z.making y.making) (or_parts (same_making y z) (list_any (same_making y) zs) none) (and_parts (not (list_any (same_making z) zs)) (differ same_making zs) apart) (differ-place y zs)
  where
    by_test : (b : Bool) → (same_making y z ≡ false) × (list_any (same_making y) zs ≡ false) → (not (list_any (same_making z) zs) ≡ true) × (differ same_making zs ≡ true)
        → (list_any (same_making y) zs ≡ false → differ same_making zs ≡ true → differ same_making (place_making y zs) ≡ true) → differ same_making (cond b (z ∷ place_making y zs) (y ∷ z ∷ zs)) ≡ true
    by_test true h d rest =
        and_from (not (list_any (same_making z) (place_making y zs))) (differ same_making (place_making y zs))
        (ap not (any-place (same_making z) y zs (turned y z h.0) (not-true (list_any (same_making z) zs) d.0))) (rest h.1 d.1)
    by_test false h d rest = and_from (not (list_any (same_making y) (z ∷ zs))) (differ same_making (z ∷ zs)) (ap not none) apart

pub differ-making : (xs : List Record) → differ same_making xs ≡ true → differ same_making (by_making xs) ≡ true
differ-making [] apart = refl
differ-making (x ∷ xs) apart =
    let h = and_parts (not (list_any (same_making x) xs)) (differ same_making xs) apart in
    differ-place x (by_making xs) (any-making (same_making x) xs (not-true (list_any (same_making x) xs) h.0)) (differ-making xs h.1)

-- ---- the one of a making

-- the record is of this making
abbrev pub is_made : ℕ → Record → Bool
is_made making x = x.making == making

place-skip : (P : Record → Bool) (y : Record) (ys : List Record) → P y ≡ false → find P (place_making y ys) ≡ find P ys
place-skip P y [] is = rw is refl
place-skip P y (z ∷ zs) is = by_test (nat_lt z.making y.making) (place-skip P y zs is)
  where
    by_test : (b : Bool) → find P (place_making y zs) ≡ find P zs → find P (cond b (z ∷ place_making y zs) (y ∷ z ∷ zs)) ≡ find P (z ∷ zs)
    by_test true rest = ap (λ o. cond (P z) (Some z) o) rest
    by_test false rest = rw is refl

place-found : (P : Record → Bool) (y : Record) (ys : List Record) → P y ≡ true → list_any P ys ≡ false → find P (place_making y ys) ≡ Some y
place-found P y [] is none = rw is refl
place-found P y (z ∷ zs) is none = by_test (nat_lt z.making y.making) (or_parts (P z) (list_any P zs) none) (place-found P y zs is)
  where
    by_test : (b : Bool) → (P z ≡ false) × (list_any P zs ≡ false) → (list_any P zs ≡ false → find P (place_making y zs) ≡ Some y) → find P (cond b (z ∷ place_making y zs) (y ∷ z ∷ zs)) ≡ Some y
    by_test true h rest = rw h.0 (rest h.1)
    by_test false h rest = rw is refl

-- where at most one passes, it is found in the one order as in the other
pub find-one : (P : Record → Bool) (same : Record → Record → Bool) → ((x y : Record) → P x ≡ true → P y ≡ true → same x y ≡ true) → (xs : List Record) → differ same xs ≡ true → find P (by_making xs) ≡ find P xs
find-one P same as_one [] apart = refl
find-one P same as_one (x ∷ xs) apart = by_test (P x) refl (and_parts (not (list_any (same x) xs)) (differ same xs) apart) (find-one P same as_one xs)
  where
    none_else : P x ≡ true → (ys : List Record) → list_any (same x) ys ≡ false → list_any P ys ≡ false
    none_else is [] none = refl
    none_else is (y ∷ ys) none = by_other (P y) refl (or_parts (same x y) (list_any (same x) ys) none) (none_else is ys)
      where
        by_other : (b : Bool) → P y ≡ b → (same x y ≡ false) × (list_any (same x) ys ≡ false) → (list_any (same x) ys ≡ false → list_any P ys ≡ false) → list_any P (y ∷ ys) ≡ false
        by_other true e h rest = absurd (true≢false (sym (as_one x y is e) ∙ h.0))
        by_other false e h rest = rw e (rest h.1)

    by_test : (b : Bool) → P x ≡ b → (not (list_any (same x) xs) ≡ true) × (differ same xs ≡ true) → (differ same xs ≡ true → find P (by_making xs) ≡ find P xs) → find P (place_making x (by_making xs)) ≡ find P (x ∷ xs)
    by_test true e h rest = place-found P x (by_making xs) e (any-making P xs (none_else e xs (not-true (list_any (same x) xs) h.0))) ∙ sym (rw e refl)
    by_test false e h rest = place-skip P x (by_making xs) e ∙ rest h.1 ∙ sym (rw e refl)

-- so it is of one making
pub find-making : (making : ℕ) (xs : List Record) → differ same_making xs ≡ true → find (is_made making) (by_making xs) ≡ find (is_made making) xs
find-making making xs apart = find-one (is_made making) same_making (λ x y is also. eq-eqb _ _ (eqb-true _ _ is ∙ sym (eqb-true _ _ also))) xs apart
