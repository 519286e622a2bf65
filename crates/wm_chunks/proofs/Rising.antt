-- Lists whose keys rise: a key is sought in them.
use Rattle.std.proofs.Common.{◌≡◌, ℕ, zero, suc, ◌<◌, ◌≤◌, ◌+◌, List, [], ◌∷◌, length, get_or, Result, Ok, Err, IfOk, IfErr, sym, ◌⊎◌, inl, inr, arith}
use Rattle.std.proofs.lemmas.Bool.{cases_lt}
use Rattle.std.proofs.lemmas.Cmp.{ranked}
use Rattle.std.specs.Cmp.{nat_cmp_is}
use Rattle.std.specs.List.Sorted.{IsBinarySearchResult, IsNonDecreasingBy, IsPartitionPoint, IsSearchInRange}
use Rattle.std.specs.Ordering.{nat_cmp, ordering_index}
use Rattle.std.specs.declared.cmp.Ordering.{Ordering}
use Rattle.std.specs.declared.cmp.Ordering.TheVariants.{Less, Equal, Greater}
use Rattle.wm_chunks.specs.Rising.{FitsAt, RiseFrom, StandsAt}

-- ---- the order of numbers

pub less_is : (m n : ℕ) → m < n → nat_cmp m n ≡ Less
less_is m n less = sym (nat_cmp_is m n Less less)

pub greater_is : (m n : ℕ) → n < m → nat_cmp m n ≡ Greater
greater_is m n more = sym (nat_cmp_is m n Greater more)

pub less_than : (m n : ℕ) → nat_cmp m n ≡ Less → m < n
less_than m n e = ranked m n Less (sym e)

index_most : (o : Ordering) → ordering_index o ≤ 2
index_most Less = omega arith
index_most Equal = omega arith
index_most Greater = omega arith

module _ {A : Type 0} (key : A → ℕ) where
  -- ---- keys that rise

  -- they rise from each lower bound on
  pub from_less : (a b : ℕ) (es : List A) → a ≤ b → RiseFrom key b es → RiseFrom key a es
  from_less a b [] less up = tt
  from_less a b (e ∷ es) less up = (let first = up.0 in omega (arith, first, less), up.1)

  pub from_at : (low : ℕ) (es : List A) (i : ℕ) (d : A) → RiseFrom key low es → i < length es → low ≤ key (get_or es i d)
  from_at low [] i d up within = absurd (omega (arith, within))
  from_at low (e ∷ es) zero d up within = up.0
  from_at low (e ∷ es) (suc i) d up within =
      let more = from_at (key e + 1) es i d up.1 (omega (arith, within)) in
      let first = up.0 in
      omega (arith, more, first)

  between : (low : ℕ) (es : List A) (i j : ℕ) (d : A) → RiseFrom key low es → i < j → j < length es → key (get_or es i d) < key (get_or es j d)
  between low [] i j d up lt within = absurd (omega (arith, within))
  between low (e ∷ es) i zero d up lt within = absurd (omega (arith, lt))
  between low (e ∷ es) zero (suc j) d up lt within = let more = from_at (key e + 1) es j d up.1 (omega (arith, within)) in omega (arith, more)
  between low (e ∷ es) (suc i) (suc j) d up lt within = between (key e + 1) es i j d up.1 (omega (arith, lt)) (omega (arith, within))

  search_rises : (low : ℕ) (es : List A) (n : ℕ) → RiseFrom key low es → IsNonDecreasingBy (λ e. ordering_index (nat_cmp (key e) n)) es
  search_rises low es n up i j d le within = by_place (cases_lt i j)
    where
      rises : (a b : ℕ) → a < b → (a < n) ⊎ (n ≤ a) → ordering_index (nat_cmp a n) ≤ ordering_index (nat_cmp b n)
      rises a b lt (inl less) = rw (less_is a n less) (omega arith)
      rises a b lt (inr more) = rw (greater_is b n (omega (arith, lt, more))) (index_most (nat_cmp a n))

      same : (k m : ℕ) → k ≡ m → ordering_index (nat_cmp (key (get_or es k d)) n) ≤ ordering_index (nat_cmp (key (get_or es m d)) n)
      same k m e = rw e (omega arith)

      by_place : (i < j) ⊎ (j ≤ i) → ordering_index (nat_cmp (key (get_or es i d)) n) ≤ ordering_index (nat_cmp (key (get_or es j d)) n)
      by_place (inl lt) = rises (key (get_or es i d)) (key (get_or es j d)) (between low es i j d up lt within) (cases_lt (key (get_or es i d)) n)
      by_place (inr ge) = same i j (omega (arith, le, ge))

  -- ---- places

  -- a key stands where it is found
  pub stands_from : (low : ℕ) (es : List A) (n i : ℕ) (d : A) → RiseFrom key low es → i < length es → key (get_or es i d) ≡ n → StandsAt key n es i
  stands_from low [] n i d up within same = absurd (omega (arith, within))
  stands_from low (e ∷ es) n zero d up within same = same
  stands_from low (e ∷ es) n (suc i) d up within same =
      let more = from_at (key e + 1) es i d up.1 (omega (arith, within)) in
      (omega (arith, more, same), stands_from (key e + 1) es n i d up.1 (omega (arith, within)) same)

  pub key_standing : (es : List A) (n i : ℕ) (d : A) → StandsAt key n es i → key (get_or es i d) ≡ n
  key_standing [] n i d stands = absurd stands
  key_standing (e ∷ es) n zero d stands = stands
  key_standing (e ∷ es) n (suc i) d stands = key_standing es n i d stands.1

  fits_from : (es : List A) (n i : ℕ) → i ≤ length es → ((k : ℕ) (d : A) → k < i → key (get_or es k d) < n)
      → ((k : ℕ) (d : A) → i ≤ k → k < length es → n < key (get_or es k d)) → FitsAt key n es i
  fits_from [] n zero within smaller greater = tt
  fits_from [] n (suc i) within smaller greater = absurd (omega (arith, within))
  fits_from (e ∷ es) n zero within smaller greater = greater zero e (omega arith) (omega arith)
  fits_from (e ∷ es) n (suc i) within smaller greater = (
    smaller zero e (omega arith),
    fits_from es n i (omega (arith, within)) (λ k d less. smaller (suc k) d (omega (arith, less))) (λ k d le less. greater (suc k) d (omega (arith, le)) (omega (arith, less))),
  )

  -- one that is greater than the last fits behind all
  pub fits_behind : (low : ℕ) (es : List A) (n last : ℕ) (d : A) → RiseFrom key low es → last + 1 ≡ length es → key (get_or es last d) < n → FitsAt key n es (length es)
  fits_behind low [] n last d up is less = tt
  fits_behind low (e ∷ []) n zero d up is less = (less, tt)
  fits_behind low (e ∷ f ∷ fs) n zero d up is less = absurd (omega (arith, is))
  fits_behind low (e ∷ es) n (suc last) d up is less =
      let more = from_at (key e + 1) es last d up.1 (omega (arith, is)) in
      (omega (arith, more, less), fits_behind (key e + 1) es n last d up.1 (omega (arith, is)) less)

  -- what is found by halving: where it stands, or where it may be put
  pub found_place : (low : ℕ) (es : List A) (n : ℕ) (r : Result ℕ ℕ) → RiseFrom key low es → IsSearchInRange r (length es) → IsBinarySearchResult (λ e. nat_cmp (key e) n) es r → IfOk r (λ i. StandsAt key n es i)
  found_place low [] n (Ok i) up within equal = absurd (omega (arith, within))
  found_place low (e ∷ es) n (Ok i) up within equal = stands_from low (e ∷ es) n i e up within (ranked (key (get_or (e ∷ es) i e)) n Equal (sym (equal e)))
  found_place low es n (Err i) up within equal = tt

  pub fitting_place : (low : ℕ) (es : List A) (n : ℕ) (r : Result ℕ ℕ) → RiseFrom key low es → IsSearchInRange r (length es) → IsBinarySearchResult (λ e. nat_cmp (key e) n) es r → IfErr r (λ i. FitsAt key n es i)
  fitting_place low es n (Ok i) up within point = tt
  fitting_place low es n (Err i) up within point =
      let parts : IsPartitionPoint (λ e. nat_cmp (key e) n ≡ Less) (λ e. nat_cmp (key e) n ≡ Greater) es i = point (search_rises low es n up) in
      fits_from es n i within (λ k d less. less_than (key (get_or es k d)) n (parts.0 k d (omega arith) less)) (λ k d le less. ranked (key (get_or es k d)) n Greater (sym (parts.1 k d le less)))
