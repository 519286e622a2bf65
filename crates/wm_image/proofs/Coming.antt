-- The number of the workspace and the making of the savepoint that come next are known by their bounds.
use Rattle.std.proofs.Common.{◌≡◌, ℕ, zero, suc, ◌+◌, ◌≤◌, ◌==◌, ◌||◌, nat_lt, max, Bool, true, false, cond, List, [], ◌∷◌, Some, is_some, refl, sym, arith}
use Rattle.std.proofs.lemmas.Bool.{and_parts, true≢false}
use Rattle.std.specs.List.{list_all, list_any}
use Rattle.wm_graph.specs.Parts.{space_of}
use Rattle.wm_spec.specs.declared.record.savepoint.Savepoint.{Savepoint}
use Rattle.wm_spec.specs.declared.record.space.Space.{Space}
use Rattle.wm_state.specs.Standing.{space_after, making_behind}

-- ---- bounds

same : (m n : ℕ) → m ≤ n → n ≤ m → n ≡ m
same m n le ge = omega (arith, le, ge)

max_under : (a b n : ℕ) → nat_lt a n ≡ true → b ≤ n → max (a + 1) b ≤ n
max_under a b n lt le = grind (arith, lt, le)

max_right : (a b n : ℕ) → n ≤ b → n ≤ max a b
max_right a b n le = grind (arith, le)

equal_under : (a b n : ℕ) → (a == n) ≡ true → n ≤ max a b
equal_under a b n e = grind (arith, e)

-- ---- workspaces

spaces_under : (rs : List Space) (n : ℕ) → list_all (λ (r : Space). nat_lt r.number n) rs ≡ true → space_after rs ≤ n
spaces_under [] n all = omega arith
spaces_under (r ∷ rs) n all = let h = and_parts (nat_lt r.number n) (list_all (λ (r : Space). nat_lt r.number n) rs) all in max_under r.number (space_after rs) n h.0 (spaces_under rs n h.1)

pub spaces_over : (rs : List Space) (n : ℕ) → is_some (space_of rs n) ≡ true → n + 1 ≤ space_after rs
spaces_over [] n some = absurd (true≢false (sym some))
spaces_over (r ∷ rs) n some = by_test (r.number == n) refl some (spaces_over rs n)
  where
    here : (a b n : ℕ) → (a == n) ≡ true → n + 1 ≤ max (a + 1) b
    here a b n e = grind (arith, e)

    by_test : (b : Bool) → (r.number == n) ≡ b → is_some (cond b (Some r) (space_of rs n)) ≡ true → (is_some (space_of rs n) ≡ true → n + 1 ≤ space_after rs) → n + 1 ≤ max (r.number + 1) (space_after rs)
    by_test true e some rest = here r.number (space_after rs) n e
    by_test false e some rest = max_right (r.number + 1) (space_after rs) (n + 1) (rest some)

-- all numbers are below it, and it is 0 or the one before it is there
pub space_after_is : (rs : List Space) (n : ℕ) → list_all (λ (r : Space). nat_lt r.number n) rs ≡ true → ((k : ℕ) → n ≡ k + 1 → is_some (space_of rs k) ≡ true) → n ≡ space_after rs
space_after_is rs zero all last = same (space_after rs) 0 (spaces_under rs 0 all) (omega arith)
space_after_is rs (suc k) all last = same (space_after rs) (suc k) (spaces_under rs (suc k) all) (one_more k (space_after rs) (spaces_over rs k (last k (plus k))))
  where
    plus : (k : ℕ) → suc k ≡ k + 1
    plus k = omega arith

    one_more : (k n : ℕ) → k + 1 ≤ n → suc k ≤ n
    one_more k n le = omega (arith, le)

-- ---- savepoints

makings_under : (xs : List Savepoint) (n : ℕ) → 1 ≤ n → list_all (λ (x : Savepoint). nat_lt x.making n) xs ≡ true → making_behind xs ≤ n
makings_under [] n some all = some
makings_under (x ∷ xs) n some all = let h = and_parts (nat_lt x.making n) (list_all (λ (x : Savepoint). nat_lt x.making n) xs) all in max_under x.making (making_behind xs) n h.0 (makings_under xs n some h.1)

makings_over : (xs : List Savepoint) (n : ℕ) → list_any (λ (y : Savepoint). (y.making + 1) == n) xs ≡ true → n ≤ making_behind xs
makings_over [] n any = absurd (true≢false (sym any))
makings_over (x ∷ xs) n any = by_test ((x.making + 1) == n) refl any (makings_over xs n)
  where
    by_test : (b : Bool) → ((x.making + 1) == n) ≡ b → (b || list_any (λ (y : Savepoint). (y.making + 1) == n) xs) ≡ true → (list_any (λ (y : Savepoint). (y.making + 1) == n) xs ≡ true → n ≤ making_behind xs)
        → n ≤ max (x.making + 1) (making_behind xs)
    by_test true e any rest = equal_under (x.making + 1) (making_behind xs) n e
    by_test false e any rest = max_right (x.making + 1) (making_behind xs) n (rest any)

-- all makings are below it, and the one before it is there, or it is 1
pub making_behind_is : (xs : List Savepoint) (n : ℕ) → list_all (λ (x : Savepoint). nat_lt x.making n) xs ≡ true → (xs ≡ [] → n ≡ 1)
    → ((y : Savepoint) (ys : List Savepoint) → xs ≡ y ∷ ys → list_any (λ (y : Savepoint). (y.making + 1) == n) xs ≡ true) → n ≡ making_behind xs
making_behind_is [] n all none last = none refl
making_behind_is (x ∷ xs) n all none last =
    let h = and_parts (nat_lt x.making n) (list_all (λ (x : Savepoint). nat_lt x.making n) xs) all in
    same (making_behind (x ∷ xs)) n (makings_under (x ∷ xs) n (some x.making n h.0) all) (makings_over (x ∷ xs) n (last x xs refl))
  where
    some : (a n : ℕ) → nat_lt a n ≡ true → 1 ≤ n
    some a n lt = grind (arith, lt)
