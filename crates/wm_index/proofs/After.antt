-- The number after the last that is used.
use Rattle.std.proofs.Common.{◌≡◌, ℕ, ◌<◌, ◌+◌, ◌==◌, nat_lt, Bool, true, ◌&&◌, ◌||◌, List, [], ◌∷◌, Option, Some, None, refl, sym, ap, ◌∙◌, arith}
use Rattle.std.proofs.lemmas.Bool.{eq-eqb, lt-ltb, or_right, true≢false}
use Rattle.std.specs.List.{list_any, list_all}
use Rattle.wm_ids.proofs.Lasts.{LastOf}
use Rattle.wm_index.specs.Kinds.{after}

-- every element's number is below where each number that there is is below
all-below : {A : Type 0} (f : A → ℕ) (xs : List A) (n : ℕ) → ((q : ℕ) → list_any (λ x. f x == q) xs ≡ true → q < n) → list_all (λ x. nat_lt (f x) n) xs ≡ true
all-below f [] n below = refl
all-below f (x ∷ xs) n below =
    ap (λ b. b && list_all (λ y. nat_lt (f y) n) xs) (lt-ltb (f x) n (below (f x) (ap (λ b. b || list_any (λ y. f y == f x) xs) (eq-eqb (f x) (f x) refl))))
    ∙ all-below f xs n (λ q some. below q (or_right (f x == q) (list_any (λ y. f y == q) xs) some))

pub all_before : {A : Type 0} (f : A → ℕ) (xs : List A) (none : ℕ) (o : Option ℕ) → LastOf (λ q. list_any (λ x. f x == q) xs) o → list_all (λ x. nat_lt (f x) (after none o)) xs ≡ true
all_before f xs none None last = all-below f xs none (λ q some. absurd (true≢false (sym some ∙ last q)))
all_before f xs none (Some k) last = all-below f xs (k + 1) (λ q some. let le = last.1 q some in omega (arith, le))

pub last_there : (used : ℕ → Bool) (none : ℕ) (o : Option ℕ) → LastOf used o → (n : ℕ) → none ≡ 0 → after none o ≡ n + 1 → used n ≡ true
last_there used none None last n zero is = absurd (omega (arith, zero, is))
last_there used none (Some k) last n zero is = let same : k ≡ n = omega (arith, is) in ap used (sym same) ∙ last.0
