-- Tests over lists that are alike once each element is looked at in one way, and over lists with an element more.
use Rattle.std.proofs.Common.{◌≡◌, ℕ, ◌==◌, Bool, true, false, not, ◌&&◌, ◌||◌, cond, List, [], ◌∷◌, ◌++◌, map, Some, None, refl, sym, ap, ◌∙◌}
use Rattle.std.proofs.lemmas.Bool.{eq-eqb, eqb-true, and_from, and_parts, not-true, or_parts, true≢false}
use Rattle.std.proofs.lemmas.Option.{same_Some}
use Rattle.std.specs.List.{list_all, list_any, filter, find}
use Rattle.std.specs.Option.{option_map}
use Rattle.wm_graph.specs.Rules.{differ}

-- ---- seen through a map

find-map : {A B : Type 0} (f : A → B) (P : B → Bool) (xs : List A) → option_map f (find (λ x. P (f x)) xs) ≡ find P (map f xs)
find-map f P [] = refl
find-map {A = A} f P (x ∷ xs) = by_test (P (f x)) (find-map f P xs)
  where
    by_test : (b : Bool) → option_map f (find (λ y. P (f y)) xs) ≡ find P (map f xs) → option_map f (cond b (Some x) (find (λ y. P (f y)) xs)) ≡ cond b (Some (f x)) (find P (map f xs))
    by_test true rest = refl
    by_test false rest = rest

any-map : {A B : Type 0} (f : A → B) (P : B → Bool) (xs : List A) → list_any P (map f xs) ≡ list_any (λ x. P (f x)) xs
any-map f P [] = refl
any-map f P (x ∷ xs) = ap (λ b. P (f x) || b) (any-map f P xs)

all-map : {A B : Type 0} (f : A → B) (P : B → Bool) (xs : List A) → list_all P (map f xs) ≡ list_all (λ x. P (f x)) xs
all-map f P [] = refl
all-map f P (x ∷ xs) = ap (λ b. P (f x) && b) (all-map f P xs)

differ-map : {A B : Type 0} (f : A → B) (same : B → B → Bool) (xs : List A) → differ same (map f xs) ≡ differ (λ x y. same (f x) (f y)) xs
differ-map f same [] = refl
differ-map f same (x ∷ xs) = rw (any-map f (same (f x)) xs, differ-map f same xs) refl

-- ---- two lists of one image

pub find-alike : {A B C : Type 0} (f : A → C) (g : B → C) (P : C → Bool) (xs : List A) (ys : List B) → map f xs ≡ map g ys
    → option_map f (find (λ x. P (f x)) xs) ≡ option_map g (find (λ y. P (g y)) ys)
find-alike f g P xs ys same = find-map f P xs ∙ ap (find P) same ∙ sym (find-map g P ys)

pub all-alike : {A B C : Type 0} (f : A → C) (g : B → C) (P : C → Bool) (xs : List A) (ys : List B) → map f xs ≡ map g ys
    → list_all (λ x. P (f x)) xs ≡ list_all (λ y. P (g y)) ys
all-alike f g P xs ys same = sym (all-map f P xs) ∙ ap (list_all P) same ∙ all-map g P ys

pub differ-alike : {A B C : Type 0} (f : A → C) (g : B → C) (R : C → C → Bool) (xs : List A) (ys : List B) → map f xs ≡ map g ys
    → differ (λ a b. R (f a) (f b)) xs ≡ differ (λ a b. R (g a) (g b)) ys
differ-alike f g R xs ys same = sym (differ-map f R xs) ∙ ap (differ R) same ∙ differ-map g R ys

-- ---- what is found

-- one more that does not pass is not found
pub find-skip : {A : Type 0} (P : A → Bool) (xs : List A) (x : A) → P x ≡ false → find P (xs ++ x ∷ []) ≡ find P xs
find-skip P [] x e = rw e refl
find-skip P (y ∷ ys) x e = ap (λ o. cond (P y) (Some y) o) (find-skip P ys x e)

-- nothing is found where nothing passes
pub find-none : {A : Type 0} (P : A → Bool) (xs : List A) → list_any P xs ≡ false → find P xs ≡ None
find-none P [] e = refl
find-none P (x ∷ xs) e = let h = or_parts (P x) (list_any P xs) e in rw h.0 (find-none P xs h.1)

-- what is found among those that pass one test is found by both
pub find-filter : {A : Type 0} (k P : A → Bool) (xs : List A) → find P (filter k xs) ≡ find (λ x. k x && P x) xs
find-filter k P [] = refl
find-filter {A = A} k P (x ∷ xs) = by_test (k x) (P x) refl (find-filter k P xs)
  where
    by_test : (b c : Bool) → P x ≡ c → find P (filter k xs) ≡ find (λ y. k y && P y) xs → find P (cond b (x ∷ filter k xs) (filter k xs)) ≡ cond (b && P x) (Some x) (find (λ y. k y && P y) xs)
    by_test true true e rest = rw e refl
    by_test true false e rest = rw e rest
    by_test false c e rest = rest

-- what is found passes
pub find-passes : {A : Type 0} (P : A → Bool) (xs : List A) (x : A) → find P xs ≡ Some x → P x ≡ true
find-passes P [] x found = cc
find-passes {A = A} P (y ∷ ys) x found = by_test (P y) refl found (find-passes P ys x)
  where
    by_test : (b : Bool) → P y ≡ b → cond b (Some y) (find P ys) ≡ Some x → (find P ys ≡ Some x → P x ≡ true) → P x ≡ true
    by_test true e h rest = ap P (sym (same_Some y x h)) ∙ e
    by_test false e h rest = rest h

-- what is found does not pass what none passes
pub found-fails : {A : Type 0} (P Q : A → Bool) (xs : List A) (x : A) → find P xs ≡ Some x → list_any Q xs ≡ false → Q x ≡ false
found-fails P Q [] x found none = cc
found-fails {A = A} P Q (y ∷ ys) x found none = by_test (P y) found (or_parts (Q y) (list_any Q ys) none) (found-fails P Q ys x)
  where
    by_test : (b : Bool) → cond b (Some y) (find P ys) ≡ Some x → (Q y ≡ false) × (list_any Q ys ≡ false) → (find P ys ≡ Some x → list_any Q ys ≡ false → Q x ≡ false) → Q x ≡ false
    by_test true h n rest = ap Q (sym (same_Some y x h)) ∙ n.0
    by_test false h n rest = rest h n.1

-- where all differ, the one that is found is found by what it does not differ from
pub find-again : {A : Type 0} (same : A → A → Bool) → ((x : A) → same x x ≡ true) → (P : A → Bool) (xs : List A) (x : A) → differ same xs ≡ true → find P xs ≡ Some x → find (λ y. same y x) xs ≡ Some x
find-again same itself P [] x apart found = found
find-again {A = A} same itself P (y ∷ ys) x apart found = by_test (P y) found (and_parts (not (list_any (same y) ys)) (differ same ys) apart) (find-again same itself P ys x)
  where
    by_test : (b : Bool) → cond b (Some y) (find P ys) ≡ Some x → (not (list_any (same y) ys) ≡ true) × (differ same ys ≡ true) → (differ same ys ≡ true → find P ys ≡ Some x → find (λ z. same z x) ys ≡ Some x)
        → find (λ z. same z x) (y ∷ ys) ≡ Some x
    by_test true h d rest = rw (same_Some y x h, itself x) refl
    by_test false h d rest = rw (found-fails P (same y) ys x h (not-true (list_any (same y) ys) d.0)) (rest d.1 h)

-- one that is found by a test is found by another that it passes too, where all that pass that one are the same and no two are
pub find-else : {A : Type 0} (P Q : A → Bool) (same : A → A → Bool) → ((x y : A) → P x ≡ true → P y ≡ true → same x y ≡ true) → (xs : List A) (x : A) → differ same xs ≡ true → find Q xs ≡ Some x → P x ≡ true → find P xs ≡ Some x
find-else P Q same as_one [] x apart found passes = cc
find-else {A = A} P Q same as_one (y ∷ ys) x apart found passes = by_test (Q y) found (and_parts (not (list_any (same y) ys)) (differ same ys) apart) (find-else P Q same as_one ys x)
  where
    by_test : (b : Bool) → cond b (Some y) (find Q ys) ≡ Some x → (not (list_any (same y) ys) ≡ true) × (differ same ys ≡ true) → (differ same ys ≡ true → find Q ys ≡ Some x → P x ≡ true → find P ys ≡ Some x)
        → find P (y ∷ ys) ≡ Some x
    by_test true h d rest = let is : y ≡ x = same_Some y x h in rw (ap P is ∙ passes) (ap Some is)
    by_test false h d rest = by_other (P y) refl
      where
        by_other : (c : Bool) → P y ≡ c → cond c (Some y) (find P ys) ≡ Some x
        by_other true e = absurd (true≢false (sym (as_one y x e passes) ∙ found-fails Q (same y) ys x h (not-true (list_any (same y) ys) d.0)))
        by_other false e = rest d.1 h passes

-- what holds of each that is found by its number holds of all, where no two have one number
pub all-found : {A : Type 0} (number_of : A → ℕ) (P : A → Bool) (xs : List A) → differ (λ x y. number_of x == number_of y) xs ≡ true → ((n : ℕ) (x : A) → find (λ y. number_of y == n) xs ≡ Some x → P x ≡ true)
    → list_all P xs ≡ true
all-found number_of P [] apart each = refl
all-found {A = A} number_of P (x ∷ xs) apart each =
    let h = and_parts (not (list_any (λ y. number_of x == number_of y) xs)) (differ (λ y z. number_of y == number_of z) xs) apart in
    and_from (P x) (list_all P xs) (each (number_of x) x (rw (eq-eqb (number_of x) (number_of x) refl) refl))
    (all-found number_of P xs h.1 (λ n y found. each n y (rw (other n y (not-true (list_any (λ y. number_of x == number_of y) xs) h.0) found) found)))
  where
    other : (n : ℕ) (y : A) → list_any (λ z. number_of x == number_of z) xs ≡ false → find (λ z. number_of z == n) xs ≡ Some y → (number_of x == n) ≡ false
    other n y none found =
        ap (λ k. number_of x == k) (sym (eqb-true (number_of y) n (find-passes (λ z. number_of z == n) xs y found)))
        ∙ found-fails (λ z. number_of z == n) (λ z. number_of x == number_of z) xs y found none

-- nothing passes where nothing is found
pub none-found : {A : Type 0} (P : A → Bool) (xs : List A) → find P xs ≡ None → list_any P xs ≡ false
none-found P [] none = refl
none-found {A = A} P (x ∷ xs) none = by_test (P x) none (none-found P xs)
  where
    by_test : (b : Bool) → cond b (Some x) (find P xs) ≡ None → (find P xs ≡ None → list_any P xs ≡ false) → (b || list_any P xs) ≡ false
    by_test true e rest = cc
    by_test false e rest = rest e

-- nothing passes what passes only where nothing does
pub any-if : {A : Type 0} (P Q : A → Bool) → ((x : A) → Q x ≡ true → P x ≡ true) → (xs : List A) → list_any P xs ≡ false → list_any Q xs ≡ false
any-if P Q to [] none = refl
any-if P Q to (x ∷ xs) none = by_test (Q x) refl (or_parts (P x) (list_any P xs) none) (any-if P Q to xs)
  where
    by_test : (b : Bool) → Q x ≡ b → (P x ≡ false) × (list_any P xs ≡ false) → (list_any P xs ≡ false → list_any Q xs ≡ false) → (b || list_any Q xs) ≡ false
    by_test true e h rest = absurd (true≢false (sym (to x e) ∙ h.0))
    by_test false e h rest = rest h.1
