-- What is found or counted among records of a kind, told by the ids of what is sought.
use Rattle.std.proofs.Common.{◌≡◌, Bool, true, false, cond, not, ◌&&◌, ◌||◌, List, [], ◌∷◌, length, Option, Some, None, is_some, refl, sym, ap, ◌∙◌, arith}
use Rattle.std.proofs.lemmas.List.Sums.{length-filter}
use Rattle.std.specs.List.{count_by, filter, filter_map, find, list_any}
use Rattle.std.specs.Option.{option_map_or}
use Rattle.wm_chunks.specs.Numbers.{Numbers}
use Rattle.wm_spec.specs.declared.record.Record.{Record}
use Rattle.wm_spec.specs.declared.record.stored.Stored.{Stored}
use Rattle.wm_ids.specs.Ids.{is_nil}
use Rattle.wm_index.proofs.Finding.{Tests, all_of, all_sought, filter-kind}
use Rattle.wm_index.proofs.Leaves.{any-kind}
use Rattle.wm_index.proofs.Using.{some_ids}
use Rattle.wm_index.specs.Indexed.{IsIndexed, ids_at, listed}
use Rattle.wm_index.specs.Kinds.{kind_at}
use Rattle.wm_index.specs.Sought.{Sought, is_sought, ids_with}
use Rattle.wm_index.specs.declared.index.Index.{Index}

-- those of a kind that pass a test
pub sought_kind : {A : Type 0} (kind : Record → Option A) (p : A → Bool) (q : Sought) → Tests kind p (is_sought q) → (kept : Numbers Record) (x : Index) → IsIndexed kept x
    → kind_at kind (listed kept.entries) (ids_at x q) ≡ filter p (filter_map kind (all_of (listed kept.entries)))
sought_kind kind p q tests kept x is = ap (filter_map kind) (all_sought kept x is q) ∙ filter-kind kind p (is_sought q) tests (all_of (listed kept.entries))

-- whether one of a kind passes a test
pub any_sought : {A : Type 0} (kind : Record → Option A) (p : A → Bool) (q : Sought) → Tests kind p (is_sought q) → (kept : Numbers Record) (x : Index) → IsIndexed kept x
    → not (is_nil (ids_at x q)) ≡ list_any p (filter_map kind (all_of (listed kept.entries)))
any_sought kind p q tests kept x is =
    ap (λ ids. not (is_nil ids)) (is.told q) ∙ some_ids (is_sought q) (listed kept.entries) ∙ any-kind kind p (is_sought q) tests (all_of (listed kept.entries))

length-kind : {A : Type 0} (kind : Record → Option A) (p : A → Bool) (q : Record → Bool) → Tests kind p q → (ss : List Stored) → length (ids_with q ss) ≡ length (filter p (filter_map kind (all_of ss)))
length-kind kind p q tests [] = refl
length-kind {A} kind p q tests (s ∷ ss) = by_kind (kind s.record) refl (tests s.record) (length-kind kind p q tests ss)
  where
    by_kind : (o : Option A) → kind s.record ≡ o → q s.record ≡ option_map_or p o false → length (ids_with q ss) ≡ length (filter p (filter_map kind (all_of ss)))
        → length (ids_with q (s ∷ ss)) ≡ length (filter p (filter_map kind (all_of (s ∷ ss))))
    by_kind None none test rest = rw (none, test) rest
    by_kind (Some x) some test rest = rw (some, test) (by_test (p x) rest)
      where
        by_test : (b : Bool) → length (ids_with q ss) ≡ length (filter p (filter_map kind (all_of ss)))
            → length (cond b (s.id ∷ ids_with q ss) (ids_with q ss)) ≡ length (cond b (x ∷ filter p (filter_map kind (all_of ss))) (filter p (filter_map kind (all_of ss))))
        by_test true rest = omega (arith, rest)
        by_test false rest = rest

-- how many of a kind pass a test
pub count_sought : {A : Type 0} (kind : Record → Option A) (p : A → Bool) (q : Sought) → Tests kind p (is_sought q) → (kept : Numbers Record) (x : Index) → IsIndexed kept x
    → length (ids_at x q) ≡ count_by p (filter_map kind (all_of (listed kept.entries)))
count_sought kind p q tests kept x is =
    ap (λ ids. length ids) (is.told q)
    ∙ length-kind kind p (is_sought q) tests (listed kept.entries)
    ∙ length-filter p (filter_map kind (all_of (listed kept.entries)))

-- ---- lists

pub filter_all : {A : Type 0} (xs : List A) → filter (λ x. true) xs ≡ xs
filter_all [] = refl
filter_all (x ∷ xs) = ap (λ l. x ∷ l) (filter_all xs)

pub count_all : {A : Type 0} (xs : List A) → count_by (λ x. true) xs ≡ length xs
count_all xs = sym (length-filter (λ x. true) xs) ∙ ap (λ l. length l) (filter_all xs)

pub some_found : {A : Type 0} (p : A → Bool) (xs : List A) → list_any p xs ≡ is_some (find p xs)
some_found p [] = refl
some_found p (x ∷ xs) = by_test (p x) (some_found p xs)
  where
    by_test : (b : Bool) → list_any p xs ≡ is_some (find p xs) → (b || list_any p xs) ≡ is_some (cond b (Some x) (find p xs))
    by_test true rest = refl
    by_test false rest = rest

-- the first of those that pass one test that passes another
pub find-filter : {A : Type 0} (p q : A → Bool) (xs : List A) → find p (filter q xs) ≡ find (λ x. p x && q x) xs
find-filter p q [] = refl
find-filter p q (x ∷ xs) = by_test (q x) (p x) refl (find-filter p q xs)
  where
    by_test : (b a : Bool) → p x ≡ a → find p (filter q xs) ≡ find (λ y. p y && q y) xs → find p (cond b (x ∷ filter q xs) (filter q xs)) ≡ cond (a && b) (Some x) (find (λ y. p y && q y) xs)
    by_test true true e rest = rw e refl
    by_test true false e rest = rw e rest
    by_test false true e rest = rest
    by_test false false e rest = rest
