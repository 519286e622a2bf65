-- Items that are found by their numbers, and whether these differ.
use Rattle.std.proofs.Common.{◌≡◌, ℕ, ◌+◌, ◌<◌, ◌==◌, Bool, true, false, not, ◌&&◌, ◌||◌, if◌then◌else◌, List, [], ◌∷◌, ◌++◌, length, Option, Some, None, is_some, option_map, refl, sym, ap, ◌∙◌, arith, take, get_or}
use Rattle.std.proofs.lemmas.Bool.Decides.{nat_tests, Decides-eqb}
use Rattle.std.proofs.lemmas.List.Folds.{find-append, list_any-append}
use Rattle.std.proofs.Math.Bool.{and-false, and-true}
use Rattle.std.specs.BTreeMap.{is_at}
use Rattle.std.specs.List.{find, list_any}
use Rattle.std.specs.Map.{lookup}
use Rattle.std.specs.Option.{option_or}
use Rattle.std.specs.Ordering.{nat_cmp}
use Rattle.wm_cells.proofs.Referring.{referred_more}
use Rattle.wm_cells.specs.Lookups.{referred, found}
use Rattle.wm_graph.specs.Rules.{differ}
use denote.Ref.{Bor}

-- a number is found where it is equal
pub at_nat : (a b : ℕ) → is_at (nat_cmp a) b ≡ (a == b)
at_nat a b = grind (arith, nat_tests)

-- one passes where one is found
pub any_found : {A : Type 0} (test : A → Bool) (xs : List A) → list_any test xs ≡ is_some (find test xs)
any_found test [] = refl
any_found {A} test (x ∷ xs) = by_test (test x) (any_found test xs)
  where
    by_test : (b : Bool) → list_any test xs ≡ is_some (find test xs) → (b || list_any test xs) ≡ is_some (if b then Some x else find test xs)
    by_test true rest = refl
    by_test false rest = rest

-- one more item differs from the others where none of them is the same
pub differ_more : {A : Type 0} (same : A → A → Bool) (xs : List A) (y : A) → differ same (xs ++ y ∷ []) ≡ (differ same xs && not (list_any (λ x. same x y) xs))
differ_more same [] y = refl
differ_more {A} same (x ∷ xs) y = rw (list_any-append (same x) xs (y ∷ []), differ_more same xs y) (by_tests (list_any (same x) xs) (same x y) (differ same xs) (list_any (λ z. same z y) xs))
  where
    by_tests : (a b d e : Bool) → (not (a || (b || false)) && (d && not e)) ≡ ((not a && d) && not (b || e))
    by_tests true b d e = refl
    by_tests false true true e = refl
    by_tests false true false e = refl
    by_tests false false d e = refl

-- an index finds the items by their numbers, and it is known whether these differ
pub record Finds {A : Type 0} (number : A → ℕ) (items : List A) (entries : List (ℕ × Bor A)) (differs : Bool) : Type 0 where
  pub finds : (n : ℕ) → found entries n ≡ find (λ x. number x == n) items
  pub differ : differs ≡ differ (λ x y. number x == number y) items

pub finds_none : {A : Type 0} (number : A → ℕ) → Finds number [] [] true
finds_none number = record { finds = λ n. refl; differ = refl }

-- something is there after a mapping where it was before
pub some_mapped : {A B : Type 0} (f : A → B) (o : Option A) → is_some (option_map f o) ≡ is_some o
some_mapped f None = refl
some_mapped f (Some a) = refl

-- what is looked up is there
abbrev has : {A : Type 0} → List (ℕ × Bor A) → ℕ → Bool
has entries n = is_some (lookup (is_at (nat_cmp n)) entries)

found_has : {A : Type 0} (entries : List (ℕ × Bor A)) (n : ℕ) → is_some (found entries n) ≡ has entries n
found_has {A} entries n = some_mapped (λ (r : Bor A). r.now) (lookup (is_at (nat_cmp n)) entries)

-- one of the items has the number of one more, where one is found
same_number : {A : Type 0} (number : A → ℕ) (items : List A) (entries : List (ℕ × Bor A)) (differs : Bool) (k : ℕ) (x : A) → Finds number items entries differs → k ≡ number x → list_any (λ y. number y == number x) items ≡ has entries k
same_number number items entries differs k x f is =
    any_found (λ y. number y == number x) items ∙ ap is_some (sym (f.finds (number x))) ∙ found_has entries (number x) ∙ ap (λ n. has entries n) (sym is)

-- an item whose number is there already
pub finds_again : {A : Type 0} (number : A → ℕ) (items : List A) (entries : List (ℕ × Bor A)) (differs : Bool) (k : ℕ) (x : A) → Finds number items entries differs → k ≡ number x → has entries k ≡ true → Finds number (items ++ x ∷ []) entries false
finds_again {A} number items entries differs k x f is there = record {
  finds = λ n.
      f.finds n
      ∙ kept (number x == n) (find (λ y. number y == n) items) (λ e. ap is_some (sym (f.finds n)) ∙ found_has entries n ∙ ap (λ m. has entries m) (sym (is ∙ (Decides-eqb (number x) n).0 e)) ∙ there)
      ∙ sym (find-append (λ y. number y == n) items (x ∷ []));
  differ = sym (differ_more (λ y z. number y == number z) items x ∙ ap (λ b. differ (λ y z. number y == number z) items && not b) (same_number number items entries differs k x f is ∙ there) ∙ and-false (differ (λ y z. number y == number z) items));
}
  where
    kept : (b : Bool) (o : Option A) → (b ≡ true → is_some o ≡ true) → o ≡ option_or o (if b then Some x else None)
    kept true None h = cc (h refl)
    kept true (Some y) h = refl
    kept false None h = refl
    kept false (Some y) h = refl

-- an item whose number is new
pub finds_more : {A : Type 0} (number : A → ℕ) (items : List A) (entries new : List (ℕ × Bor A)) (differs : Bool) (k : ℕ) (x : Bor A) → Finds number items entries differs → k ≡ number x.now → has entries k ≡ false → ((n : ℕ) → lookup (is_at (nat_cmp n)) new ≡ (if is_at (nat_cmp k) n then Some x else lookup (is_at (nat_cmp n)) entries)) → Finds number (items ++ x.now ∷ []) new differs
finds_more {A} number items entries new differs k x f is fresh update = record {
  finds = λ n.
      ap (option_map (λ (r : Bor A). r.now)) (update n ∙ ap (λ b. if b then Some x else lookup (is_at (nat_cmp n)) entries) (at_nat k n ∙ ap (λ m. m == n) is))
      ∙ added (number x.now == n) (lookup (is_at (nat_cmp n)) entries) (λ e. ap (λ m. has entries m) (sym (is ∙ (Decides-eqb (number x.now) n).0 e)) ∙ fresh)
      ∙ ap (λ o. option_or o (if number x.now == n then Some x.now else None)) (f.finds n)
      ∙ sym (find-append (λ y. number y == n) items (x.now ∷ []));
  differ = sym (differ_more (λ y z. number y == number z) items x.now ∙ ap (λ b. differ (λ y z. number y == number z) items && not b) (same_number number items entries differs k x.now f is ∙ fresh) ∙ and-true (differ (λ y z. number y == number z) items) ∙ sym f.differ);
}
  where
    added : (b : Bool) (o : Option (Bor A)) → (b ≡ true → is_some o ≡ false) → option_map (λ (r : Bor A). r.now) (if b then Some x else o) ≡ option_or (option_map (λ (r : Bor A). r.now) o) (if b then Some x.now else None)
    added true None h = refl
    added true (Some y) h = cc (h refl)
    added false None h = refl
    added false (Some y) h = refl

-- ---- a turn of a loop over references

pub turn_again : {A : Type 0} (number : A → ℕ) (xs : List (Bor A)) (i : ℕ) (entries : List (ℕ × Bor A)) (differs : Bool) (k : ℕ) (x : Bor A) → i < length xs → x ≡ get_or xs i x → Finds number (referred (take i xs)) entries differs → k ≡ number x.now → has entries k ≡ true → Finds number (referred (take (i + 1) xs)) entries false
turn_again number xs i entries differs k x within at f is there =
    rw (referred_more xs i x within, ← at) (finds_again number (referred (take i xs)) entries differs k x.now f is there)

pub turn_more : {A : Type 0} (number : A → ℕ) (xs : List (Bor A)) (i : ℕ) (entries new : List (ℕ × Bor A)) (differs : Bool) (k : ℕ) (x : Bor A) → i < length xs → x ≡ get_or xs i x → Finds number (referred (take i xs)) entries differs → k ≡ number x.now → has entries k ≡ false → ((n : ℕ) → lookup (is_at (nat_cmp n)) new ≡ (if is_at (nat_cmp k) n then Some x else lookup (is_at (nat_cmp n)) entries)) → Finds number (referred (take (i + 1) xs)) new differs
turn_more number xs i entries new differs k x within at f is fresh update =
    rw (referred_more xs i x within, ← at) (finds_more number (referred (take i xs)) entries new differs k x f is fresh update)
