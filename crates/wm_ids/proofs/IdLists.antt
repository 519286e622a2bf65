-- Lists of ids that ascend.
use Rattle.std.proofs.Common.{◌≡◌, ◌≢◌, ℕ, zero, suc, ◌<◌, ◌≤◌, cond, eqb, List, [], ◌∷◌, length, get_or, insert, remove, Result, MatchResult, refl, sym, ap, ◌∙◌, ◌⊎◌, inl, inr, arith}
use Rattle.std.proofs.lemmas.Bool.{cases_lt, eq-eqb, ne_eqb}
use Rattle.std.proofs.lemmas.Cmp.{ranked}
use Rattle.std.proofs.lemmas.List.Sorted.{searched}
use Rattle.std.proofs.lemmas.Map.Keys.{below_from_sorted}
use Rattle.std.proofs.lemmas.Result.{MatchResult-weaker}
use Rattle.std.specs.Cmp.{nat_cmp_is}
use Rattle.std.specs.List.Sorted.{IsBinarySearchResult, IsStrictlySortedBy}
use Rattle.std.specs.Ordering.{nat_cmp}
use Rattle.std.specs.declared.cmp.Ordering.TheVariants.{Less, Equal, Greater}
use Rattle.wm_ids.specs.Ids.{is_nil, placed, without}

pub less_than : (m n : ℕ) → nat_cmp m n ≡ Less → m < n
less_than m n e = ranked m n Less (sym e)

pub less_is : (m n : ℕ) → m < n → nat_cmp m n ≡ Less
less_is m n less = sym (nat_cmp_is m n Less less)

pub greater_is : (m n : ℕ) → n < m → nat_cmp m n ≡ Greater
greater_is m n more = sym (nat_cmp_is m n Greater more)

pub equal_is : (m n : ℕ) → m ≡ n → nat_cmp m n ≡ Equal
equal_is m n same = sym (nat_cmp_is m n Equal same)

-- an id put behind smaller ones, before a greater one or at the end
placed_at : (id : ℕ) (xs : List ℕ) (i : ℕ) → i ≤ length xs → ((k : ℕ) → k < i → get_or xs k 0 < id) → (i < length xs → id < get_or xs i 0) → insert xs i id ≡ placed id xs
placed_at id [] zero within below more = refl
placed_at id [] (suc i) within below more = absurd (omega (arith, within))
placed_at id (y ∷ ys) zero within below more = rw (less_is id y (more (omega arith))) refl
placed_at id (y ∷ ys) (suc i) within below more =
    ap (λ l. y ∷ l) (placed_at id ys i (omega (arith, within)) (λ k less. below (suc k) (omega (arith, less))) (λ less. more (omega (arith, less))))
    ∙ rw (greater_is id y (below zero (omega arith))) refl

-- an id that stands behind smaller ones
placed_there : (id : ℕ) (xs : List ℕ) (i : ℕ) → i < length xs → get_or xs i 0 ≡ id → ((k : ℕ) → k < i → get_or xs k 0 < id) → placed id xs ≡ xs
placed_there id [] i within is below = absurd (omega (arith, within))
placed_there id (y ∷ ys) zero within is below = rw (equal_is id y (sym is)) refl
placed_there id (y ∷ ys) (suc i) within is below =
    rw (greater_is id y (below zero (omega arith)))
    (ap (λ l. y ∷ l) (placed_there id ys i (omega (arith, within)) is (λ k less. below (suc k) (omega (arith, less)))))

-- an id taken out behind smaller ones
removed_at : (id : ℕ) (xs : List ℕ) (i : ℕ) → i < length xs → get_or xs i 0 ≡ id → ((k : ℕ) → k < i → get_or xs k 0 < id) → remove xs i ≡ without id xs
removed_at id [] i within is below = absurd (omega (arith, within))
removed_at id (y ∷ ys) zero within is below = ap (λ b. cond b ys (y ∷ without id ys)) (sym (eq-eqb _ _ is))
removed_at id (y ∷ ys) (suc i) within is below =
    ap (λ l. y ∷ l) (removed_at id ys i (omega (arith, within)) is (λ k less. below (suc k) (omega (arith, less))))
    ∙ ap (λ b. cond b ys (y ∷ without id ys)) (sym (ne_eqb _ _ (λ e. absurd (let lt : y < id = below zero (omega arith) in omega (arith, lt, e)))))

-- an id that is not among others
without_away : (id : ℕ) (xs : List ℕ) → ((k : ℕ) → k < length xs → get_or xs k 0 ≢ id) → without id xs ≡ xs
without_away id [] away = refl
without_away id (y ∷ ys) away =
    ap (λ b. cond b ys (y ∷ without id ys)) (ne_eqb _ _ (away zero (omega arith))) ∙ ap (λ l. y ∷ l) (without_away id ys (λ k less. away (suc k) (omega (arith, less))))

rises : (xs : List ℕ) → IsStrictlySortedBy nat_cmp xs → (i j : ℕ) → i ≤ j → j < length xs → get_or xs i 0 ≤ get_or xs j 0
rises xs sorted i j le within = by_place (cases_lt i j)
  where
    by_place : (i < j) ⊎ (j ≤ i) → get_or xs i 0 ≤ get_or xs j 0
    by_place (inl lt) = let less = below_from_sorted xs i j 0 sorted lt within in omega (arith, less)
    by_place (inr ge) = same i j (omega (arith, le, ge))
      where
        same : (m n : ℕ) → m ≡ n → get_or xs m 0 ≤ get_or xs n 0
        same m n e = rw e (omega arith)

-- a search finds the place where an id is to stand, if it is not there
pub place_searched : (id : ℕ) (xs : List ℕ) (r : Result ℕ ℕ) → IsStrictlySortedBy nat_cmp xs → IsBinarySearchResult (λ y. nat_cmp y id) xs r
    → MatchResult r (λ i. placed id xs ≡ xs) (λ i. (i ≤ length xs) × (insert xs i id ≡ placed id xs))
place_searched id xs r sorted found =
    MatchResult-weaker r (searched xs id r found (rises xs sorted))
    (λ i h. placed_there id xs i h.0 h.1 (λ k less. (let lt = below_from_sorted xs k i 0 sorted less h.0 in omega (arith, lt, h.1))))
    (λ i h. (h.0, placed_at id xs i h.0 h.1 (λ less. h.2 i (omega arith) less)))

-- and where it stands, if it is there
pub found_searched : (id : ℕ) (xs : List ℕ) (r : Result ℕ ℕ) → IsStrictlySortedBy nat_cmp xs → IsBinarySearchResult (λ y. nat_cmp y id) xs r
    → MatchResult r (λ i. (i < length xs) × (remove xs i ≡ without id xs)) (λ i. without id xs ≡ xs)
found_searched id xs r sorted found =
    MatchResult-weaker r (searched xs id r found (rises xs sorted))
    (λ i h. (h.0, removed_at id xs i h.0 h.1 (λ k less. (let lt = below_from_sorted xs k i 0 sorted less h.0 in omega (arith, lt, h.1)))))
    (λ i h. without_away id xs (λ k less e. by_place i k (cases_lt k i) h.1 h.2 less e))
  where
    by_place : (i k : ℕ) → (k < i) ⊎ (i ≤ k) → ((k : ℕ) → k < i → get_or xs k 0 < id) → ((k : ℕ) → i ≤ k → k < length xs → id < get_or xs k 0) → k < length xs → get_or xs k 0 ≡ id → ⊥
    by_place i k (inl less) below above within e = let lt = below k less in omega (arith, lt, e)
    by_place i k (inr more) below above within e = let lt = above k more within in omega (arith, lt, e)

pub one_ascends : (id : ℕ) → IsStrictlySortedBy nat_cmp (id ∷ [])
unfolding IsStrictlySortedBy
one_ascends id = (tt, tt)

-- there are none where none are counted
pub nil_told : (xs : List ℕ) → eqb (length xs) 0 ≡ is_nil xs
nil_told [] = refl
nil_told (x ∷ xs) = ne_eqb (length (x ∷ xs)) 0 (λ e. omega (arith, e))
