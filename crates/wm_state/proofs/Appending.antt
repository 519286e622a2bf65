-- Tests over two lists, one behind the other.
use Rattle.std.proofs.Common.{◌≡◌, Bool, true, false, not, cond, List, [], ◌∷◌, ◌++◌, Some, refl, sym, ap, ◌∙◌}
use Rattle.std.proofs.lemmas.Bool.{and_from, and_parts, not-true, or_parts}
use Rattle.std.specs.List.{list_all, list_any, filter, find}
use Rattle.wm_graph.specs.Rules.{differ}

pub all_append : {A : Type 0} (P : A → Bool) (xs ys : List A) → list_all P xs ≡ true → list_all P ys ≡ true → list_all P (xs ++ ys) ≡ true
all_append P [] ys e f = f
all_append P (x ∷ xs) ys e f = let h = and_parts (P x) (list_all P xs) e in and_from (P x) (list_all P (xs ++ ys)) h.0 (all_append P xs ys h.1 f)

pub any_append : {A : Type 0} (P : A → Bool) (xs ys : List A) → list_any P xs ≡ false → list_any P ys ≡ false → list_any P (xs ++ ys) ≡ false
any_append P [] ys e f = f
any_append P (x ∷ xs) ys e f = let h = or_parts (P x) (list_any P xs) e in rw (h.0, any_append P xs ys h.1 f) refl

-- what is kept passes, where all that is kept does
pub all_kept : {A : Type 0} (P k : A → Bool) → ((x : A) → k x ≡ true → P x ≡ true) → (xs : List A) → list_all P (filter k xs) ≡ true
all_kept P k to [] = refl
all_kept P k to (x ∷ xs) = by_test (k x) refl (all_kept P k to xs)
  where
    by_test : (b : Bool) → k x ≡ b → list_all P (filter k xs) ≡ true → list_all P (cond b (x ∷ filter k xs) (filter k xs)) ≡ true
    by_test true e rest = and_from (P x) (list_all P (filter k xs)) (to x e) rest
    by_test false e rest = rest

-- no two are the same, where none of the first is one of the second
pub differ_append : {A : Type 0} (same : A → A → Bool) (xs ys : List A) → differ same xs ≡ true → differ same ys ≡ true → list_all (λ x. not (list_any (same x) ys)) xs ≡ true → differ same (xs ++ ys) ≡ true
differ_append same [] ys e f apart = f
differ_append same (x ∷ xs) ys e f apart =
    let h = and_parts (not (list_any (same x) xs)) (differ same xs) e in
    let g = and_parts (not (list_any (same x) ys)) (list_all (λ z. not (list_any (same z) ys)) xs) apart in
    and_from (not (list_any (same x) (xs ++ ys))) (differ same (xs ++ ys))
    (ap not (any_append (same x) xs ys (not-true (list_any (same x) xs) h.0) (not-true (list_any (same x) ys) g.0)))
    (differ_append same xs ys h.1 f g.1)

-- what was found is found with more behind
pub find_before : {A : Type 0} (P : A → Bool) (xs ys : List A) (x : A) → find P xs ≡ Some x → find P (xs ++ ys) ≡ Some x
find_before P [] ys x e = cc
find_before P (z ∷ zs) ys x e = by_test (P z) refl (find_before P zs ys x)
  where
    by_test : (t : Bool) → P z ≡ t → (find P zs ≡ Some x → find P (zs ++ ys) ≡ Some x) → find P (z ∷ (zs ++ ys)) ≡ Some x
    by_test true h rest = rw h (sym (ap (λ t. cond t (Some z) (find P zs)) h) ∙ e)
    by_test false h rest = rw h (rest (sym (ap (λ t. cond t (Some z) (find P zs)) h) ∙ e))

-- and where nothing was, it is what is found behind
pub find_behind : {A : Type 0} (P : A → Bool) (xs ys : List A) → list_any P xs ≡ false → find P (xs ++ ys) ≡ find P ys
find_behind P [] ys none = refl
find_behind P (x ∷ xs) ys none = let h = or_parts (P x) (list_any P xs) none in rw h.0 (find_behind P xs ys h.1)
