-- Tests over lists that gain an element, lose some, or have one in the place of another.
use Rattle.std.proofs.Common.{◌≡◌, Bool, true, false, not, ◌&&◌, ◌||◌, cond, List, [], ◌∷◌, ◌++◌, Option, Some, None, is_some, refl, sym, ap, ◌∙◌, ◌⊎◌, inl, inr, ⊎_elim}
use Rattle.std.proofs.lemmas.Bool.{and_from, and_parts, not-true, or_parts}
use Rattle.std.proofs.lemmas.Option.{same_Some}
use Rattle.std.specs.List.{list_all, list_any, filter, find}
use Rattle.std.specs.Option.{option_map_or}
use Rattle.wm_graph.specs.Rules.{differ}

-- ---- all of a list

pub all_if : {A : Type 0} (P Q : A → Bool) → ((x : A) → P x ≡ true → Q x ≡ true) → (xs : List A) → list_all P xs ≡ true → list_all Q xs ≡ true
all_if P Q to [] e = refl
all_if P Q to (x ∷ xs) e = let h = and_parts (P x) (list_all P xs) e in and_from (Q x) (list_all Q xs) (to x h.0) (all_if P Q to xs h.1)

pub all_push : {A : Type 0} (P : A → Bool) (xs : List A) (x : A) → list_all P xs ≡ true → P x ≡ true → list_all P (xs ++ x ∷ []) ≡ true
all_push P [] x e f = and_from (P x) true f refl
all_push P (y ∷ ys) x e f = let h = and_parts (P y) (list_all P ys) e in and_from (P y) (list_all P (ys ++ x ∷ [])) h.0 (all_push P ys x h.1 f)

pub all_filter : {A : Type 0} (P k : A → Bool) (xs : List A) → list_all P xs ≡ true → list_all P (filter k xs) ≡ true
all_filter P k [] e = refl
all_filter P k (x ∷ xs) e = by_test (k x) (and_parts (P x) (list_all P xs) e) (all_filter P k xs (and_parts (P x) (list_all P xs) e).1)
  where
    by_test : (b : Bool) → (P x ≡ true) × (list_all P xs ≡ true) → list_all P (filter k xs) ≡ true → list_all P (cond b (x ∷ filter k xs) (filter k xs)) ≡ true
    by_test true h rest = and_from (P x) (list_all P (filter k xs)) h.0 rest
    by_test false h rest = rest

-- the same where one stands in the place of another
pub all_swap : {A : Type 0} (P Q : A → Bool) (a b : A) (front back : List A) → ((x : A) → P x ≡ true → Q x ≡ true) → Q b ≡ true → list_all P (front ++ a ∷ back) ≡ true
    → list_all Q (front ++ b ∷ back) ≡ true
all_swap P Q a b [] back to new e = and_from (Q b) (list_all Q back) new (all_if P Q to back (and_parts (P a) (list_all P back) e).1)
all_swap P Q a b (x ∷ front) back to new e =
    let h = and_parts (P x) (list_all P (front ++ a ∷ back)) e in
    and_from (Q x) (list_all Q (front ++ b ∷ back)) (to x h.0) (all_swap P Q a b front back to new h.1)

-- what passes holds of the one in the middle
pub all_middle : {A : Type 0} (P : A → Bool) (a : A) (front back : List A) → list_all P (front ++ a ∷ back) ≡ true → P a ≡ true
all_middle P a [] back e = (and_parts (P a) (list_all P back) e).0
all_middle P a (x ∷ front) back e = all_middle P a front back (and_parts (P x) (list_all P (front ++ a ∷ back)) e).1

-- ---- some of a list

pub any_push : {A : Type 0} (P : A → Bool) (xs : List A) (x : A) → list_any P xs ≡ false → P x ≡ false → list_any P (xs ++ x ∷ []) ≡ false
any_push P [] x e f = rw f refl
any_push P (y ∷ ys) x e f = let h = or_parts (P y) (list_any P ys) e in rw (h.0, any_push P ys x h.1 f) refl

pub any_filter : {A : Type 0} (P k : A → Bool) (xs : List A) → list_any P xs ≡ false → list_any P (filter k xs) ≡ false
any_filter P k [] e = refl
any_filter P k (x ∷ xs) e = by_test (k x) (or_parts (P x) (list_any P xs) e) (any_filter P k xs (or_parts (P x) (list_any P xs) e).1)
  where
    by_test : (b : Bool) → (P x ≡ false) × (list_any P xs ≡ false) → list_any P (filter k xs) ≡ false → list_any P (cond b (x ∷ filter k xs) (filter k xs)) ≡ false
    by_test true h rest = rw (h.0, rest) refl
    by_test false h rest = rest

pub any_swap : {A : Type 0} (P : A → Bool) (a b : A) → P b ≡ P a → (front back : List A) → list_any P (front ++ b ∷ back) ≡ list_any P (front ++ a ∷ back)
any_swap P a b same [] back = ap (λ t. t || list_any P back) same
any_swap P a b same (x ∷ front) back = ap (λ t. P x || t) (any_swap P a b same front back)

-- ---- no two the same

pub differ_push : {A : Type 0} (same : A → A → Bool) (xs : List A) (x : A) → differ same xs ≡ true → list_any (λ y. same y x) xs ≡ false → differ same (xs ++ x ∷ []) ≡ true
differ_push same [] x e f = refl
differ_push same (y ∷ ys) x e f =
    let h = and_parts (not (list_any (same y) ys)) (differ same ys) e in
    let g = or_parts (same y x) (list_any (λ z. same z x) ys) f in
    and_from (not (list_any (same y) (ys ++ x ∷ []))) (differ same (ys ++ x ∷ [])) (ap not (any_push (same y) ys x (not-true (list_any (same y) ys) h.0) g.0)) (differ_push same ys x h.1 g.1)

pub differ_filter : {A : Type 0} (same : A → A → Bool) (k : A → Bool) (xs : List A) → differ same xs ≡ true → differ same (filter k xs) ≡ true
differ_filter same k [] e = refl
differ_filter same k (x ∷ xs) e = by_test (k x) (and_parts (not (list_any (same x) xs)) (differ same xs) e) (differ_filter same k xs (and_parts (not (list_any (same x) xs)) (differ same xs) e).1)
  where
    by_test : (b : Bool) → (not (list_any (same x) xs) ≡ true) × (differ same xs ≡ true) → differ same (filter k xs) ≡ true → differ same (cond b (x ∷ filter k xs) (filter k xs)) ≡ true
    by_test true h rest = and_from (not (list_any (same x) (filter k xs))) (differ same (filter k xs)) (ap not (any_filter (same x) k xs (not-true (list_any (same x) xs) h.0))) rest
    by_test false h rest = rest

pub differ_swap : {A : Type 0} (same : A → A → Bool) (a b : A) → ((x : A) → same b x ≡ same a x) → ((x : A) → same x b ≡ same x a) → (front back : List A)
    → differ same (front ++ b ∷ back) ≡ differ same (front ++ a ∷ back)
differ_swap {A = A} same a b left right [] back = ap (λ t. not t && differ same back) (any_alike back)
  where
    any_alike : (xs : List A) → list_any (same b) xs ≡ list_any (same a) xs
    any_alike [] = refl
    any_alike (x ∷ xs) = rw (left x, any_alike xs) refl
differ_swap same a b left right (x ∷ front) back = rw (any_swap (same x) a b (right x) front back, differ_swap same a b left right front back) refl

-- ---- what is found

find_swap : {A B : Type 0} (P : A → Bool) (f : A → B) (d : B) (a b : A) → P b ≡ P a → f b ≡ f a → (front back : List A)
    → option_map_or f (find P (front ++ b ∷ back)) d ≡ option_map_or f (find P (front ++ a ∷ back)) d
find_swap P f d a b same like [] back = by_test (P a) same
  where
    by_test : (t : Bool) → P b ≡ t → option_map_or f (cond (P b) (Some b) (find P back)) d ≡ option_map_or f (cond t (Some a) (find P back)) d
    by_test true e = rw e like
    by_test false e = rw e refl
find_swap P f d a b same like (x ∷ front) back = by_test (P x) (find_swap P f d a b same like front back)
  where
    by_test : (t : Bool) → option_map_or f (find P (front ++ b ∷ back)) d ≡ option_map_or f (find P (front ++ a ∷ back)) d
        → option_map_or f (cond t (Some x) (find P (front ++ b ∷ back))) d ≡ option_map_or f (cond t (Some x) (find P (front ++ a ∷ back))) d
    by_test true rest = refl
    by_test false rest = rest

-- what is found is found still, or is the one in whose place another is found
pub find_swapped : {A : Type 0} (P : A → Bool) (a b : A) → P b ≡ P a → (front back : List A) (x : A) → find P (front ++ a ∷ back) ≡ Some x
    → (find P (front ++ b ∷ back) ≡ Some x) ⊎ ((x ≡ a) × (find P (front ++ b ∷ back) ≡ Some b))
find_swapped {A = A} P a b same [] back x found = by_test (P a) refl
  where
    by_test : (t : Bool) → P a ≡ t → (cond (P b) (Some b) (find P back) ≡ Some x) ⊎ ((x ≡ a) × (cond (P b) (Some b) (find P back) ≡ Some b))
    by_test true e = inr (sym (same_Some a x (sym (ap (λ t. cond t (Some a) (find P back)) e) ∙ found)), ap (λ t. cond t (Some b) (find P back)) (same ∙ e))
    by_test false e = inl (ap (λ t. cond t (Some b) (find P back)) (same ∙ e) ∙ sym (ap (λ t. cond t (Some a) (find P back)) e) ∙ found)
find_swapped {A = A} P a b same (y ∷ front) back x found = by_test (P y) refl (find_swapped P a b same front back x)
  where
    by_test : (t : Bool) → P y ≡ t → (find P (front ++ a ∷ back) ≡ Some x → (find P (front ++ b ∷ back) ≡ Some x) ⊎ ((x ≡ a) × (find P (front ++ b ∷ back) ≡ Some b)))
        → (cond (P y) (Some y) (find P (front ++ b ∷ back)) ≡ Some x) ⊎ ((x ≡ a) × (cond (P y) (Some y) (find P (front ++ b ∷ back)) ≡ Some b))
    by_test true e rest = inl (ap (λ t. cond t (Some y) (find P (front ++ b ∷ back))) e ∙ sym (ap (λ t. cond t (Some y) (find P (front ++ a ∷ back))) e) ∙ found)
    by_test false e rest = ⊎_elim
        (λ h. inl (ap (λ t. cond t (Some y) (find P (front ++ b ∷ back))) e ∙ h))
        (λ h. inr (h.0, ap (λ t. cond t (Some y) (find P (front ++ b ∷ back))) e ∙ h.1))
        (rest (sym (ap (λ t. cond t (Some y) (find P (front ++ a ∷ back))) e) ∙ found))

-- what was found is found with one more behind
pub find_push : {A : Type 0} (P : A → Bool) (xs : List A) (x y : A) → find P xs ≡ Some y → find P (xs ++ x ∷ []) ≡ Some y
find_push P [] x y e = cc
find_push P (z ∷ zs) x y e = by_test (P z) refl (find_push P zs x y)
  where
    by_test : (t : Bool) → P z ≡ t → (find P zs ≡ Some y → find P (zs ++ x ∷ []) ≡ Some y) → find P (z ∷ (zs ++ x ∷ [])) ≡ Some y
    by_test true h rest = rw h (sym (ap (λ t. cond t (Some z) (find P zs)) h) ∙ e)
    by_test false h rest = rw h (rest (sym (ap (λ t. cond t (Some z) (find P zs)) h) ∙ e))

-- one that is new is found where nothing was
pub find_new : {A : Type 0} (P : A → Bool) (xs : List A) (x : A) → list_any P xs ≡ false → P x ≡ true → find P (xs ++ x ∷ []) ≡ Some x
find_new P [] x none is = rw is refl
find_new P (y ∷ ys) x none is = let h = or_parts (P y) (list_any P ys) none in rw h.0 (find_new P ys x h.1 is)

-- nothing of a list passes a test that fails where another is passed
pub none_if : {A : Type 0} (P Q : A → Bool) → ((x : A) → P x ≡ true → Q x ≡ false) → (xs : List A) → list_all P xs ≡ true → list_any Q xs ≡ false
none_if P Q to [] e = refl
none_if P Q to (x ∷ xs) e = let h = and_parts (P x) (list_all P xs) e in rw (to x h.0, none_if P Q to xs h.1) refl

pub some_swap : {A : Type 0} (P : A → Bool) (a b : A) → P b ≡ P a → (front back : List A) → is_some (find P (front ++ b ∷ back)) ≡ is_some (find P (front ++ a ∷ back))
some_swap {A = A} P a b same front back = asked (find P (front ++ b ∷ back)) ∙ find_swap P (λ (x : A). true) false a b same refl front back ∙ sym (asked (find P (front ++ a ∷ back)))
  where
    asked : (o : Option A) → is_some o ≡ option_map_or (λ (x : A). true) o false
    asked None = refl
    asked (Some x) = refl
