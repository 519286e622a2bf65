-- How many pages are put for the blobs that alter what stands under their ids.
use Rattle.std.proofs.Common.{◌≡◌, ℕ, ◌+◌, ◌-◌, ◌*◌, ◌<◌, ◌≤◌, Bool, true, false, cond, not, ◌||◌, eqb, List, [], ◌∷◌, ◌++◌, length, filter, Option, Some, None, is_some, refl, sym, ap, subst, ◌∙◌, arith}
use Rattle.std.specs.Bool.{beq}
use Rattle.std.specs.List.{list_any}
use Rattle.std.proofs.lemmas.Bool.{eqb-true}
use Rattle.std.proofs.lemmas.Map.Views.{any-filter_same}
use Rattle.wm_page.specs.declared.write.PageWrite.{PageWrite}
use Rattle.wm_heap.specs.declared.blob.Blob.{Blob}
use Rattle.wm_heap.specs.declared.slot.Slot.{Slot}
use Rattle.wm_heap.specs.Blobs.{blob_at, alters, AreBlobs, AreSomeOf, OverBytes, change_something, moves, slots_put}
use Rattle.wm_heap.specs.Content.{slots_in}
use Rattle.wm_heap.specs.Slots.{used}
use Rattle.wm_heap.proofs.Altering.{all_change, alters_not, change_something-some, same_unless, used-some}
use Rattle.wm_heap.proofs.Planning.{AreBlobs-rest}
use Rattle.wm_heap.proofs.Sizes.{used-append}
use Rattle.wm_store.specs.Few.{AddsLate, AlterOnly, PutsFew}

-- ---- blobs of some ids

abbrev pub is_among : List ℕ → Blob → Bool
is_among ids b = list_any (λ k. eqb k b.id) ids

none_among : (blobs : List Blob) → length (filter (is_among []) blobs) ≡ 0
none_among [] = refl
none_among (b ∷ blobs) = none_among blobs

either_few : (p q : Blob → Bool) (blobs : List Blob) → length (filter (λ b. p b || q b) blobs) ≤ length (filter p blobs) + length (filter q blobs)
either_few p q [] = omega arith
either_few p q (b ∷ blobs) = by_tests (p b) (q b) (either_few p q blobs)
  where
    by_tests : (c d : Bool) → length (filter (λ b. p b || q b) blobs) ≤ length (filter p blobs) + length (filter q blobs)
        → length (cond (c || d) (b ∷ filter (λ b. p b || q b) blobs) (filter (λ b. p b || q b) blobs)) ≤ length (cond c (b ∷ filter p blobs) (filter p blobs)) + length (cond d (b ∷ filter q blobs) (filter q blobs))
    by_tests true true rest = omega arith
    by_tests true false rest = omega arith
    by_tests false true rest = omega arith
    by_tests false false rest = rest

none_named : (k : ℕ) (blobs : List Blob) → blob_at blobs k ≡ None → length (filter (λ (b : Blob). eqb k b.id) blobs) ≡ 0
none_named k [] none = refl
none_named k (b ∷ blobs) none = by_tests (eqb b.id k) refl (eqb k b.id) refl none (λ rest. none_named k blobs rest)
  where
    by_tests : (c : Bool) → eqb b.id k ≡ c → (d : Bool) → eqb k b.id ≡ d → cond c (Some b.bytes) (blob_at blobs k) ≡ None → (blob_at blobs k ≡ None → length (filter (λ (b : Blob). eqb k b.id) blobs) ≡ 0)
        → length (cond d (b ∷ filter (λ (b : Blob). eqb k b.id) blobs) (filter (λ (b : Blob). eqb k b.id) blobs)) ≡ 0
    by_tests true e d f n rest = absurd cc
    by_tests false e true f n rest = absurd (let same = eqb-true k b.id f in grind (arith, same, e))
    by_tests false e false f n rest = rest n

one_named : (k : ℕ) (blobs : List Blob) → AreBlobs blobs → length (filter (λ (b : Blob). eqb k b.id) blobs) ≤ 1
one_named k [] once = omega arith
one_named k (b ∷ blobs) once =
    let parts = AreBlobs-rest b blobs once in
    by_test (eqb k b.id) refl parts.0 (one_named k blobs parts.1)
  where
    by_test : (d : Bool) → eqb k b.id ≡ d → blob_at blobs b.id ≡ None → length (filter (λ (b : Blob). eqb k b.id) blobs) ≤ 1
        → length (cond d (b ∷ filter (λ (b : Blob). eqb k b.id) blobs) (filter (λ (b : Blob). eqb k b.id) blobs)) ≤ 1
    by_test true e none rest = let zero_left : length (filter (λ (b : Blob). eqb k b.id) blobs) ≡ 0 = none_named k blobs (subst (λ id. blob_at blobs id ≡ None) (sym (eqb-true k b.id e)) none) in omega arith
    by_test false e none rest = rest

-- no more blobs than ids are of these ids
among_few : (ids : List ℕ) (blobs : List Blob) → AreBlobs blobs → length (filter (is_among ids) blobs) ≤ length ids
among_few [] blobs once = omega (arith, none_among blobs)
among_few (k ∷ ids) blobs once =
    omega (arith, either_few (λ (b : Blob). eqb k b.id) (is_among ids) blobs, one_named k blobs once, among_few ids blobs once)

-- ---- those that alter

-- where none of them alters, each says what stands there
alter_none : (standing : ℕ → Option (List ℕ)) (blobs : List Blob) → filter (alters standing) blobs ≡ [] → AlterOnly [] standing blobs
alter_none standing [] none = tt
alter_none standing (b ∷ blobs) none = by_test (alters standing b) refl none (λ rest. alter_none standing blobs rest)
  where
    by_test : (t : Bool) → alters standing b ≡ t → cond t (b ∷ filter (alters standing) blobs) (filter (alters standing) blobs) ≡ [] → (filter (alters standing) blobs ≡ [] → AlterOnly [] standing blobs) → AlterOnly [] standing (b ∷ blobs)
    by_test true e n later = absurd cc
    by_test false e n later = (λ out. same_unless standing b e, later n)

-- those that alter are of these ids
alter_among : (ids : List ℕ) (standing : ℕ → Option (List ℕ)) (blobs : List Blob) → AlterOnly ids standing blobs → length (filter (alters standing) blobs) ≤ length (filter (is_among ids) blobs)
alter_among ids standing [] only = omega arith
alter_among ids standing (b ∷ blobs) only = by_tests (alters standing b) refl (is_among ids b) refl (alter_among ids standing blobs only.1)
  where
    by_tests : (c : Bool) → alters standing b ≡ c → (d : Bool) → is_among ids b ≡ d → length (filter (alters standing) blobs) ≤ length (filter (is_among ids) blobs)
        → length (cond c (b ∷ filter (alters standing) blobs) (filter (alters standing) blobs)) ≤ length (cond d (b ∷ filter (is_among ids) blobs) (filter (is_among ids) blobs))
    by_tests true e true f rest = omega arith
    by_tests true e false f rest = absurd (let same = alters_not standing b (only.0 f) in cc)
    by_tests false e true f rest = omega arith
    by_tests false e false f rest = rest

empty : {A : Type 0} (xs : List A) → eqb (length xs) 0 ≡ true → xs ≡ []
empty [] e = refl
empty (x ∷ xs) e = absurd (let f = eqb-true (length (x ∷ xs)) 0 e in omega arith)

-- the pages that are put for those alone
pub puts_few : (there : ℕ → Bool) (standing : ℕ → Option (List ℕ)) (blobs left : List Blob) (pages : List PageWrite) → ((id : ℕ) → there id ≡ is_some (standing id)) → AreBlobs blobs → left ≡ filter (alters standing) blobs → OverBytes standing blobs
    → eqb (length pages) 0 ≡ not (change_something there left) → length pages ≤ 2 * length left + 2 → PutsFew blobs pages standing
puts_few there standing blobs left pages tells once are read nothing most = record {
  none = (
    λ none. alter_none standing blobs (empty (filter (alters standing) blobs) (sym same ∙ ap (λ (ps : List PageWrite). eqb (length ps) 0) none)),
    λ only. empty pages (same ∙ (let few = alter_among [] standing blobs only in let zero_is = none_among blobs in grind (arith, few, zero_is))),
  );
  few = λ ids only. omega (arith, most, ap length are, alter_among ids standing blobs only, among_few ids blobs once);
  read = read;
}
  where
    same : eqb (length pages) 0 ≡ eqb (length (filter (alters standing) blobs)) 0
    same = nothing ∙ ap (λ l. not (change_something there l)) are ∙ all_change there standing blobs tells

-- and none where all of them only drop ids that have no place
pub none_put : (there : ℕ → Bool) (blobs left : List Blob) (pages : List PageWrite) → AreSomeOf left blobs → eqb (length pages) 0 ≡ not (change_something there left) → change_something there blobs ≡ false → pages ≡ []
none_put there blobs left pages some nothing idle = empty pages (nothing ∙ ap not (change_something-some there left blobs some idle))

-- ---- those that move a record

moves_change : (there : ℕ → Bool) (blobs : List Blob) → list_any (moves there) blobs ≡ true → change_something there blobs ≡ true
moves_change there [] some = some
moves_change there (b ∷ blobs) some = by_tests (is_some b.bytes) (there b.id) some (moves_change there blobs)
  where
    by_tests : (put here : Bool) → (not (beq put here) || list_any (moves there) blobs) ≡ true → (list_any (moves there) blobs ≡ true → change_something there blobs ≡ true) → ((put || here) || change_something there blobs) ≡ true
    by_tests true here any later = refl
    by_tests false true any later = refl
    by_tests false false any later = later any

filled : {A : Type 0} (xs : List A) → eqb (length xs) 0 ≡ false → 0 < length xs
filled [] e = absurd cc
filled (x ∷ xs) e = omega arith

-- pages are put where a change moves a record, since it is one of those that are left
pub some_put : (there : ℕ → Bool) (blobs left : List Blob) (pages : List PageWrite) → filter (moves there) left ≡ filter (moves there) blobs → eqb (length pages) 0 ≡ not (change_something there left) → list_any (moves there) blobs ≡ true → 0 < length pages
some_put there blobs left pages moved nothing some = filled pages (nothing ∙ ap not (moves_change there left also))
  where
    any_left : (all : List Blob) → list_any (moves there) (filter (moves there) all) ≡ list_any (moves there) all
    any_left all = any-filter_same (moves there) (moves there) true (λ b e. e) all

    also : list_any (moves there) left ≡ true
    also = sym (any_left left) ∙ ap (list_any (moves there)) moved ∙ any_left blobs ∙ some

-- pages are added late for all of the blobs, where they are for some
pub adds_late : (old new : ℕ) (held : ℕ → List ℕ) (some blobs : List Blob) → AreSomeOf some blobs → AddsLate old new held (slots_put some) → AddsLate old new held (slots_put blobs)
adds_late old new held some blobs are late = record {
  each = λ grown p from till. (let each = late.each grown p from till in let more = put (slots_in held p) in omega arith);
  last = λ grown enough. (let last = late.last grown enough in let more = put (slots_in held (old - 1)) in omega arith);
}
  where
    put : (slots : List Slot) → used (slots ++ slots_put some) ≤ used (slots ++ slots_put blobs)
    put slots = omega (arith, used-append slots (slots_put some), used-append slots (slots_put blobs), used-some some blobs are)
