-- From the steps of a change to its pages.
use Rattle.std.proofs.Common.{◌≡◌, ℕ, ◌+◌, ◌-◌, ◌*◌, ◌<◌, ◌≤◌, ◌⊎◌, inl, inr, ⊎_elim, Bool, true, false, cond, not, ◌&&◌, ◌||◌, eqb, ltb, List, [], ◌∷◌, ◌++◌, length, get_or, drop, map, Option, Some, None, is_some, unwrap_or, refl, sym, ap, subst, ◌∙◌, arith}
use Rattle.std.specs.Option.{option_and_then}
use Rattle.std.specs.List.{list_any, AllByRecursion}
use Rattle.std.specs.List.Sorted.{IsStrictlySortedBy}
use Rattle.std.specs.Ordering.{nat_cmp, is_eq}
use Rattle.std.specs.declared.cmp.Ordering.TheVariants.{Less}
use Rattle.std.specs.Map.{keys_of}
use Rattle.std.proofs.lemmas.Bool.{cases_lt, eqb-true, lt-ltb, ltb-true, or_parts}
use Rattle.std.proofs.lemmas.List.{drop_more, drop_all, length-map}
use Rattle.wm_base.proofs.Plain.{unless_parts}
use Rattle.wm_page.proofs.Batches.{length-entries}
use Rattle.wm_page.specs.declared.write.PageWrite.{PageWrite}
use Rattle.wm_page.specs.Batch.{entries}
use Rattle.wm_spec.specs.Records.{ids_differ}
use Rattle.wm_page.specs.Entries.{is_named, found, no_page_twice}
use Rattle.wm_page.specs.Fields.{number_at}
use Rattle.wm_heap.specs.declared.blob.Blob.{Blob}
use Rattle.wm_heap.specs.declared.heap.Heap.{Heap}
use Rattle.wm_heap.specs.declared.slot.Slot.{Slot}
use Rattle.wm_heap.specs.Slots.{slots_of, page_of, used}
use Rattle.wm_heap.specs.Content.{bytes_at, slots_in, content}
use Rattle.wm_heap.specs.Blobs.{blob_at, after, AreBlobs, AreSmall, change_something, slots_put}
use Rattle.wm_heap.specs.Places.{at, ids_of, place_of, page_count, Once, IsPlaced, IsHeapOf}
use Rattle.wm_heap.specs.Plan.{root_of, IsPlan, IsChanged, laid}
use Rattle.wm_heap.specs.Draft.{slots_now, bytes_now, HasRoom, IsThere, Stands, Grows, Goes, Done, IsLean, slot_size, written, rooted, paged}
use Rattle.wm_heap.specs.Room.{KnowsRoom, Spreads}
use Rattle.wm_heap.proofs.Knowing.{knows_same, quarters_few}
use Rattle.wm_heap.proofs.Upto.{bytes_at-all, sound}
use Rattle.wm_heap.proofs.Sizes.{used-append, used-put}
use Rattle.wm_heap.proofs.Standing.{Grows-none, Grows-then}

-- ---- blobs, each with an id of its own

not_named : (id : ℕ) (blobs : List Blob) → list_any (λ other. eqb other id) (map (λ (b : Blob). b.id) blobs) ≡ false → blob_at blobs id ≡ None
not_named id [] apart = refl
not_named id (b ∷ blobs) apart = let t = or_parts (eqb b.id id) (list_any (λ other. eqb other id) (map (λ (b : Blob). b.id) blobs)) apart in rw t.0 (not_named id blobs t.1)

pub AreBlobs-rest : (b : Blob) (blobs : List Blob) → AreBlobs (b ∷ blobs) → (blob_at blobs b.id ≡ None) × AreBlobs blobs
unfolding ids_differ
AreBlobs-rest b blobs once =
    let t = unless_parts (list_any (λ other. eqb other b.id) (map (λ (b : Blob). b.id) blobs)) (ids_differ (map (λ (b : Blob). b.id) blobs)) once in
    (not_named b.id blobs t.0, t.1)

-- ---- the steps

-- what is known before blob i, whatever the pages hold
pub record Going (old heap : Heap) (changed : List (ℕ × List Slot)) (blobs : List Blob) (i : ℕ) : Type 0 where
  pub room : HasRoom changed
  pub grows : Grows (page_count old) (page_count heap) [] changed
  pub once : AreBlobs (drop i blobs)
  pub small : AreSmall (drop i blobs)
  pub later : (id : ℕ) → is_some (blob_at (drop i blobs) id) ≡ true → place_of heap id ≡ place_of old id
  pub nothing : (eqb (length changed) 0 && not (change_something (λ id. is_some (place_of old id)) (drop i blobs))) ≡ not (change_something (λ id. is_some (place_of old id)) blobs)

pub going_begun : (old : Heap) (changed : List (ℕ × List Slot)) (blobs : List Blob) → changed ≡ [] → AreBlobs blobs → AreSmall blobs → Going old old changed blobs 0
going_begun old changed blobs empty once small = record {
  room = λ p slots e. absurd (let none : at changed p ≡ None = ap (λ l. at l p) empty in cc);
  grows = subst (λ l. Grows (page_count old) (page_count old) [] l) (sym empty) (Grows-none (page_count old) []);
  once = once;
  small = small;
  later = λ id e. refl;
  nothing = rw empty refl;
}

head_named : (b : Blob) (blobs : List Blob) → is_some (blob_at (b ∷ blobs) b.id) ≡ true
head_named b blobs = let t : eqb b.id b.id ≡ true = grind arith in rw t refl

pub going_on : (old heap new : Heap) (was now : List (ℕ × List Slot)) (blobs : List Blob) (i : ℕ) (b : Blob) → i < length blobs → b ≡ get_or blobs i b → Going old heap was blobs i
    → Goes heap new was now b.id (is_some b.bytes || is_some (place_of heap b.id)) → Going old new now blobs (i + 1)
going_on old heap new was now blobs i b within is going goes =
    let there = λ (id : ℕ). is_some (place_of old id) in
    let rest = drop (i + 1) blobs in
    let at_i : drop i blobs ≡ b ∷ rest = drop_more blobs i b within ∙ ap (λ x. x ∷ rest) (sym is) in
    let parts = AreBlobs-rest b rest (subst AreBlobs at_i going.once) in
    let all_small : AreSmall (b ∷ rest) = subst AreSmall at_i going.small in
    let place_is : place_of heap b.id ≡ place_of old b.id = going.later b.id (subst (λ l. is_some (blob_at l b.id) ≡ true) (sym at_i) (head_named b rest)) in
    let before : (eqb (length was) 0 && not (change_something there (b ∷ rest))) ≡ not (change_something there blobs) = subst (λ l. (eqb (length was) 0 && not (change_something there l)) ≡ not (change_something there blobs)) at_i going.nothing in
    record {
      room = goes.room;
      grows = Grows-then (page_count old) (page_count heap) (page_count new) [] was now going.grows goes.grows;
      once = parts.1;
      small = all_small.1;
      later = λ id named. by_id id parts.0 named (eqb id b.id) refl (λ far. going.later id (subst (λ l. is_some (blob_at l id) ≡ true) (sym at_i) far));
      nothing = by_touch (is_some b.bytes || is_some (place_of heap b.id)) refl (ap (λ o. is_some b.bytes || is_some o) place_is) ∙ before;
    }
  where
    by_id : (id : ℕ) → blob_at (drop (i + 1) blobs) b.id ≡ None → is_some (blob_at (drop (i + 1) blobs) id) ≡ true → (d : Bool) → eqb id b.id ≡ d
        → (is_some (blob_at (b ∷ drop (i + 1) blobs) id) ≡ true → place_of heap id ≡ place_of old id) → place_of new id ≡ place_of old id
    by_id id none named true e far = absurd (let same = eqb-true id b.id e in let gone : blob_at (drop (i + 1) blobs) id ≡ None = rw same none in let f = ap is_some gone in cc)
    by_id id none named false e far = goes.others id e ∙ far (by_test (eqb b.id id) named)
      where
        by_test : (t : Bool) → is_some (blob_at (drop (i + 1) blobs) id) ≡ true → is_some (cond t (Some b.bytes) (blob_at (drop (i + 1) blobs) id)) ≡ true
        by_test true n = refl
        by_test false n = n

    by_touch : (t : Bool) → (is_some b.bytes || is_some (place_of heap b.id)) ≡ t → (is_some b.bytes || is_some (place_of heap b.id)) ≡ (is_some b.bytes || is_some (place_of old b.id))
        → (eqb (length now) 0 && not (change_something (λ id. is_some (place_of old id)) (drop (i + 1) blobs))) ≡ (eqb (length was) 0 && not (change_something (λ id. is_some (place_of old id)) (b ∷ drop (i + 1) blobs)))
    by_touch true e same =
        let some = goes.some e in
        let full : eqb (length now) 0 ≡ false = grind arith in
        let touched : (is_some b.bytes || is_some (place_of old b.id)) ≡ true = sym same ∙ e in
        rw (full, touched) (by_zero (eqb (length was) 0))
      where
        by_zero : (z : Bool) → false ≡ (z && false)
        by_zero true = refl
        by_zero false = refl
    by_touch false e same =
        let still = goes.none e in
        let touched : (is_some b.bytes || is_some (place_of old b.id)) ≡ false = sym same ∙ e in
        rw (still, touched) refl

-- what is known besides where the pages are told
pub record Telling (heap : Heap) (changed : List (ℕ × List Slot)) (held : ℕ → List ℕ) (in_use in_file : ℕ) (blobs : List Blob) (i : ℕ) : Type 0 where
  pub stands : Stands heap changed held in_use in_file
  pub rest : (id : ℕ) → after (blob_at (drop i blobs) id) (bytes_now heap changed held id) ≡ after (blob_at blobs id) (bytes_at (content held in_use) id)

pub telling_begun : (heap : Heap) (changed : List (ℕ × List Slot)) (held : ℕ → List ℕ) (in_use in_file : ℕ) (blobs : List Blob) → changed ≡ [] → IsHeapOf heap held in_use → in_use ≤ in_file → Telling heap changed held in_use in_file blobs 0
telling_begun heap changed held in_use in_file blobs empty is_heap fits = subst (λ l. Telling heap l held in_use in_file blobs 0) (sym empty) begun
  where
    few : (p : ℕ) → 2 ≤ p → p < page_count heap → p < in_use
    few p from till = let len = is_heap.pages in omega arith

    placed_here : IsPlaced (slots_in held) (page_count heap) (place_of heap)
    placed_here = record {
      there = λ id p e. (let t = is_heap.placed.there id p e in let high = t.1 in let low = t.0 in let len = is_heap.pages in (t.0, omega arith, t.2));
      only = λ id p from till here. is_heap.placed.only id p from (few p from till) here;
      once = λ p from till. is_heap.placed.once p from (few p from till);
    }

    begun : Telling heap [] held in_use in_file blobs 0
    begun = record {
      stands = record {
        there = λ p from till. (let low = few p from till in inr (low, omega arith, is_heap.slots p from low));
        placed = placed_here;
        ids = λ p from till. is_heap.ids p from (few p from till);
      };
      rest = λ id. ap (λ o. after (blob_at blobs id) o) (sym (bytes_at-all (slots_in held) in_use (place_of heap) id is_heap.placed));
    }

pub telling_on : (heap new : Heap) (was now : List (ℕ × List Slot)) (held : ℕ → List ℕ) (in_use in_file : ℕ) (blobs : List Blob) (i : ℕ) (b : Blob) → i < length blobs → b ≡ get_or blobs i b → AreBlobs (drop i blobs) → Telling heap was held in_use in_file blobs i
    → Done heap new was now held in_use in_file b.id b.bytes → Telling new now held in_use in_file blobs (i + 1)
telling_on heap new was now held in_use in_file blobs i b within is once telling did =
    let rest = drop (i + 1) blobs in
    let at_i : drop i blobs ≡ b ∷ rest = drop_more blobs i b within ∙ ap (λ x. x ∷ rest) (sym is) in
    let parts = AreBlobs-rest b rest (subst AreBlobs at_i once) in
    record {
      stands = did.stands;
      rest = λ id. ap (λ o. after (blob_at rest id) o) (did.bytes_are id) ∙ by_tests id parts.0 (eqb id b.id) refl (eqb b.id id) refl ∙ sym (ap (λ l. after (blob_at l id) (bytes_now heap was held id)) at_i) ∙ telling.rest id;
    }
  where
    by_tests : (id : ℕ) → blob_at (drop (i + 1) blobs) b.id ≡ None → (d : Bool) → eqb id b.id ≡ d → (t : Bool) → eqb b.id id ≡ t
        → after (blob_at (drop (i + 1) blobs) id) (cond d b.bytes (bytes_now heap was held id)) ≡ after (cond t (Some b.bytes) (blob_at (drop (i + 1) blobs) id)) (bytes_now heap was held id)
    by_tests id none true e true f = let same = eqb-true id b.id e in let gone : blob_at (drop (i + 1) blobs) id ≡ None = rw same none in rw gone refl
    by_tests id none true e false f = absurd (let same = eqb-true id b.id e in grind (arith, same, f))
    by_tests id none false e true f = absurd (let same = eqb-true b.id id f in grind (arith, same, e))
    by_tests id none false e false f = refl

-- what blobs put take so many bytes in all
abbrev pub put_size : List Blob → ℕ
put_size blobs = used (slots_put blobs)

-- no page has more than what the store holds there and what the blobs before blob i put, and one was added only where
-- the last page had no room for that
pub record Leaning (old heap : Heap) (changed : List (ℕ × List Slot)) (held : ℕ → List ℕ) (blobs : List Blob) (i : ℕ) : Type 0 where
  pub more : (p : ℕ) → used (slots_now changed held p) + put_size (drop i blobs) ≤ used (slots_in held p) + put_size blobs
  pub full : page_count old < page_count heap → 2 < page_count old → 4096 + put_size (drop i blobs) < used (slots_in held (page_count old - 1)) + put_size blobs

pub leaning_begun : (old : Heap) (changed : List (ℕ × List Slot)) (held : ℕ → List ℕ) (blobs : List Blob) → changed ≡ [] → Leaning old old changed held blobs 0
leaning_begun old changed held blobs empty = subst (λ l. Leaning old old l held blobs 0) (sym empty) (record {
  more = λ p. omega arith;
  full = λ grown some. absurd (omega arith);
})

pub leaning_on : (old heap new : Heap) (was now : List (ℕ × List Slot)) (held : ℕ → List ℕ) (blobs : List Blob) (i : ℕ) (b : Blob) → i < length blobs → b ≡ get_or blobs i b → page_count old ≤ page_count heap → Leaning old heap was held blobs i
    → IsLean heap new was now held (slot_size b.bytes) → Leaning old new now held blobs (i + 1)
leaning_on old heap new was now held blobs i b within is no_fewer leaning lean = record {
  more = λ p. (let before = leaning.more p in let step = lean.more p in omega (arith, size));
  full = λ grown some. full_by some (cases_lt (page_count old) (page_count heap)) grown;
}
  where
    size : put_size (drop i blobs) ≡ slot_size b.bytes + put_size (drop (i + 1) blobs)
    size = ap put_size (drop_more blobs i b within ∙ ap (λ x. x ∷ drop (i + 1) blobs) (sym is)) ∙ used-put b (drop (i + 1) blobs)

    full_by : 2 < page_count old → (page_count old < page_count heap) ⊎ (page_count heap ≤ page_count old) → page_count old < page_count new
        → 4096 + put_size (drop (i + 1) blobs) < used (slots_in held (page_count old - 1)) + put_size blobs
    full_by some (inl before) grown = let t = leaning.full before some in omega (arith, size)
    full_by some (inr still) grown =
        let same : page_count heap ≡ page_count old = omega arith in
        let step = subst (λ n. 4096 < used (slots_now was held (n - 1)) + slot_size b.bytes) same (lean.full (omega arith) (omega arith)) in
        let before = leaning.more (page_count old - 1) in
        omega (arith, size)

-- the room of the pages is known, and a page was added only where each page had less than a quarter of a page more room
-- than the blobs before blob i put
pub record Spreading (old heap : Heap) (changed : List (ℕ × List Slot)) (held : ℕ → List ℕ) (blobs : List Blob) (i : ℕ) : Type 0 where
  pub knows : KnowsRoom heap.room (slots_now changed held) (page_count heap)
  pub full : page_count old < page_count heap → (p : ℕ) → 2 ≤ p → p < page_count old → 4096 + put_size (drop i blobs) < used (slots_in held p) + put_size blobs + 1024

pub spreading_begun : (old : Heap) (changed : List (ℕ × List Slot)) (held : ℕ → List ℕ) (blobs : List Blob) → changed ≡ [] → KnowsRoom old.room (slots_in held) (page_count old) → Spreading old old changed held blobs 0
spreading_begun old changed held blobs empty knows = subst (λ l. Spreading old old l held blobs 0) (sym empty) (record {
  knows = knows;
  full = λ grown. absurd (omega arith);
})

pub spreading_on : (old heap new : Heap) (was now : List (ℕ × List Slot)) (held : ℕ → List ℕ) (blobs : List Blob) (i : ℕ) (b : Blob) → i < length blobs → b ≡ get_or blobs i b → page_count old ≤ page_count heap → Leaning old heap was held blobs i → Spreading old heap was held blobs i
    → Spreads heap new was now held (slot_size b.bytes) → Spreading old new now held blobs (i + 1)
spreading_on old heap new was now held blobs i b within is no_fewer leaning spreading spread = record {
  knows = spread.knows;
  full = λ grown p from till. full_by p from till (cases_lt (page_count old) (page_count heap)) grown;
}
  where
    size : put_size (drop i blobs) ≡ slot_size b.bytes + put_size (drop (i + 1) blobs)
    size = ap put_size (drop_more blobs i b within ∙ ap (λ x. x ∷ drop (i + 1) blobs) (sym is)) ∙ used-put b (drop (i + 1) blobs)

    full_by : (p : ℕ) → 2 ≤ p → p < page_count old → (page_count old < page_count heap) ⊎ (page_count heap ≤ page_count old) → page_count old < page_count new
        → 4096 + put_size (drop (i + 1) blobs) < used (slots_in held p) + put_size blobs + 1024
    full_by p from till (inl before) grown = let t = spreading.full before p from till in omega (arith, size)
    full_by p from till (inr still) grown =
        let step = spread.full (omega arith) p from (omega arith) in
        let before = leaning.more p in
        let few = quarters_few (slot_size b.bytes) in
        omega (arith, size)

-- ---- the pages

is_eq-cmp : (a b : ℕ) → is_eq (nat_cmp a b) ≡ eqb a b
is_eq-cmp a b = grind arith

pub is_named-written : (p : ℕ) (changed : List (ℕ × List Slot)) → is_named p (written changed) ≡ is_some (at changed p)
is_named-written p [] = refl
is_named-written p (e ∷ changed) = by_test (is_eq (nat_cmp p e.0)) (eqb p e.0) (is_eq-cmp p e.0) (is_named-written p changed)
  where
    by_test : (b c : Bool) → b ≡ c → is_named p (written changed) ≡ is_some (at changed p) → cond c true (is_named p (written changed)) ≡ is_some (cond b (Some e.1) (at changed p))
    by_test true true same rest = refl
    by_test true false same rest = absurd cc
    by_test false true same rest = absurd cc
    by_test false false same rest = rest

abbrev pub page_or : Option (List Slot) → List ℕ → List ℕ
page_or None otherwise = otherwise
page_or (Some slots) otherwise = page_of slots

found-written : (p : ℕ) (changed : List (ℕ × List Slot)) (otherwise : List ℕ) → found p (written changed) otherwise ≡ page_or (at changed p) otherwise
found-written p [] otherwise = refl
found-written p (e ∷ changed) otherwise = by_test (is_eq (nat_cmp p e.0)) (eqb p e.0) (is_eq-cmp p e.0) (found-written p changed otherwise)
  where
    by_test : (b c : Bool) → b ≡ c → found p (written changed) otherwise ≡ page_or (at changed p) otherwise → cond c (page_of e.1) (found p (written changed) otherwise) ≡ page_or (cond b (Some e.1) (at changed p)) otherwise
    by_test true true same rest = refl
    by_test true false same rest = absurd cc
    by_test false true same rest = absurd cc
    by_test false false same rest = rest

-- ---- no page twice

less_not_eq : (a b : ℕ) → nat_cmp a b ≡ Less → eqb a b ≡ false
less_not_eq a b less = sym (is_eq-cmp a b) ∙ ap is_eq less

not_among : (p : ℕ) (changed : List (ℕ × List Slot)) → AllByRecursion (λ y. nat_cmp p y ≡ Less) (keys_of changed) → is_named p (written changed) ≡ false
not_among p [] below = refl
not_among p (e ∷ changed) below = rw (less_not_eq p e.0 below.0) (not_among p changed below.1)

pub once_written : (changed : List (ℕ × List Slot)) → IsStrictlySortedBy nat_cmp (keys_of changed) → no_page_twice (written changed) ≡ true
unfolding IsStrictlySortedBy
once_written [] ordered = refl
once_written (e ∷ changed) ordered = rw (not_among e.0 changed ordered.0) (once_written changed ordered.1)

pub once_paged : (before count : ℕ) (changed : List (ℕ × List Slot)) → IsStrictlySortedBy nat_cmp (keys_of changed) → ((p : ℕ) → is_some (at changed p) ≡ true → 2 ≤ p) → no_page_twice (paged before count changed) ≡ true
once_paged before count changed ordered high = by_test (ltb before count) (is_some (at changed 1)) refl
  where
    by_test : (b d : Bool) → is_some (at changed 1) ≡ d → no_page_twice (rooted b count ++ written changed) ≡ true
    by_test false d e = once_written changed ordered
    by_test true true e = absurd (let low = high 1 e in omega arith)
    by_test true false e = rw (is_named-written 1 changed ∙ e) (once_written changed ordered)

-- ---- what the pages are

named_paged : (before count : ℕ) (changed : List (ℕ × List Slot)) (p : ℕ) → 2 ≤ p → is_named p (paged before count changed) ≡ is_some (at changed p)
named_paged before count changed p from = by_test (ltb before count)
  where
    by_test : (b : Bool) → is_named p (rooted b count ++ written changed) ≡ is_some (at changed p)
    by_test false = is_named-written p changed
    by_test true = (let t : eqb p 1 ≡ false = grind arith in rw t (is_named-written p changed))

found_paged : (before count : ℕ) (changed : List (ℕ × List Slot)) (p : ℕ) (otherwise : List ℕ) → 2 ≤ p → found p (paged before count changed) otherwise ≡ page_or (at changed p) otherwise
found_paged before count changed p otherwise from = by_test (ltb before count)
  where
    by_test : (b : Bool) → found p (rooted b count ++ written changed) otherwise ≡ page_or (at changed p) otherwise
    by_test false = found-written p changed otherwise
    by_test true = (let t : eqb p 1 ≡ false = grind arith in rw t (found-written p changed otherwise))

-- no page below 2 was put
low_free : (changed : List (ℕ × List Slot)) (count p : ℕ) → ((q : ℕ) → is_some (at changed q) ≡ true → (2 ≤ q) × (q < count)) → p < 2 → is_some (at changed p) ≡ false
low_free changed count p within low = by_case (is_some (at changed p)) refl
  where
    by_case : (b : Bool) → is_some (at changed p) ≡ b → b ≡ false
    by_case true e = absurd (let t = (within p e).0 in omega arith)
    by_case false e = refl

pub plan_is : (before count : ℕ) (changed : List (ℕ × List Slot)) → Grows before count [] changed → (before < count → number_at (root_of count) 0 ≡ count) → 2 ≤ before → IsPlan before count (paged before count changed)
plan_is before count changed grows reads enough = record {
  no_fewer = grows.no_fewer;
  within = λ p named. within_by p (cases_lt p 2) named;
  grown = λ p low high. named_paged before count changed p (omega arith) ∙ grows.grown p low high;
  root = root_by (ltb before count) (is_named-written 1 changed ∙ low_free changed count 1 inside (omega arith));
  counted = λ more. (let t : ltb before count ≡ true = lt-ltb before count more in rw t (reads more));
}
  where
    inside : (q : ℕ) → is_some (at changed q) ≡ true → (2 ≤ q) × (q < count)
    inside q there = ⊎_elim (λ none. absurd cc) (λ t. t) (grows.within q there)

    within_by : (p : ℕ) → (p < 2) ⊎ (2 ≤ p) → is_named p (paged before count changed) ≡ true → (1 ≤ p) × (p < count)
    within_by p (inr high) named = let t = inside p (sym (named_paged before count changed p high) ∙ named) in (omega arith, t.1)
    within_by p (inl low) named = by_test (ltb before count) refl named (low_free changed count p inside low)
      where
        by_one : (b : Bool) → eqb p 1 ≡ b → before < count → cond b true (is_named p (written changed)) ≡ true → is_some (at changed p) ≡ false → (1 ≤ p) × (p < count)
        by_one true e more n free = let same = eqb-true p 1 e in (omega arith, omega arith)
        by_one false e more n free = absurd (let gone = is_named-written p changed ∙ free in cc)

        by_test : (b : Bool) → ltb before count ≡ b → is_named p (rooted b count ++ written changed) ≡ true → is_some (at changed p) ≡ false → (1 ≤ p) × (p < count)
        by_test false e n free = absurd (let gone = is_named-written p changed ∙ free in cc)
        by_test true e n free = by_one (eqb p 1) refl (ltb-true before count e) n free

    root_by : (b : Bool) → is_named 1 (written changed) ≡ false → is_named 1 (rooted b count ++ written changed) ≡ b
    root_by true free = refl
    root_by false free = free

-- as many pages as were put, and page 1 where there are more than before
paged_none : (before count : ℕ) (changed : List (ℕ × List Slot)) → Grows before count [] changed → eqb (length (paged before count changed)) 0 ≡ eqb (length changed) 0
paged_none before count changed grows = by_test (ltb before count) refl changed (λ more. grows.grown before (omega arith) (ltb-true before count more))
  where
    by_test : (b : Bool) → ltb before count ≡ b → (xs : List (ℕ × List Slot)) → (ltb before count ≡ true → is_some (at xs before) ≡ true) → eqb (length (rooted b count ++ written xs)) 0 ≡ eqb (length xs) 0
    by_test true e [] some = absurd (let t = some e in cc)
    by_test true e (x ∷ xs) some = grind arith
    by_test false e [] some = refl
    by_test false e (x ∷ xs) some = grind arith

-- ---- how many pages

length-paged : (before count : ℕ) (changed : List (ℕ × List Slot)) → length (paged before count changed) ≤ length changed + 1
length-paged before count changed = by_test (ltb before count)
  where
    written_are : length (written changed) ≡ length changed
    written_are = length-map changed (λ e. (e.0, page_of e.1))

    by_test : (b : Bool) → length (rooted b count ++ written changed) ≤ length changed + 1
    by_test true = omega (arith, written_are)
    by_test false = omega (arith, written_are)

pub planned_few : (changed : List (ℕ × List Slot)) (before count i n : ℕ) (pages : List PageWrite) → entries pages ≡ paged before count changed → length changed ≤ 2 * i → i ≤ n → length pages ≤ 2 * n + 2
planned_few changed before count i n pages pages_are few within = omega (arith, few, within, length-entries pages, ap length pages_are, length-paged before count changed)

-- ---- what the store holds then

IsPlaced-same : (slots now : ℕ → List Slot) (count : ℕ) (place : ℕ → Option ℕ) → ((p : ℕ) → 2 ≤ p → now p ≡ slots p) → IsPlaced slots count place → IsPlaced now count place
IsPlaced-same slots now count place same placed = record {
  there = λ id p e. (let t = placed.there id p e in (t.0, t.1, subst (λ xs. is_some (bytes_at xs id) ≡ true) (sym (same p t.0)) t.2));
  only = λ id p from till here. placed.only id p from till (subst (λ xs. is_some (bytes_at xs id) ≡ true) (same p from) here);
  once = λ p from till. subst Once (sym (same p from)) (placed.once p from till);
}

-- each page put is read as the slots put there
abbrev pub ReadsAgain : List (ℕ × List Slot) → Type 0
ReadsAgain changed = (p : ℕ) (slots : List Slot) → at changed p ≡ Some slots → slots_of (page_of slots) ≡ Some slots

slots_laid : (before count : ℕ) (changed : List (ℕ × List Slot)) (held : ℕ → List ℕ) → ReadsAgain changed → (p : ℕ) → 2 ≤ p → slots_in (laid (paged before count changed) held) p ≡ slots_now changed held p
slots_laid before count changed held again p from =
    ap (λ page. unwrap_or (slots_of page) []) (found_paged before count changed p (held p) from) ∙ by_put (at changed p) refl
  where
    by_put : (o : Option (List Slot)) → at changed p ≡ o → unwrap_or (slots_of (page_or o (held p))) [] ≡ unwrap_or o (slots_in held p)
    by_put None e = refl
    by_put (Some slots) e = rw (again p slots e) refl

pub changed_is : (heap : Heap) (changed : List (ℕ × List Slot)) (held : ℕ → List ℕ) (in_use in_file before : ℕ) (blobs : List Blob) (i : ℕ) → length blobs ≤ i → drop i blobs ≡ [] → Telling heap changed held in_use in_file blobs i → ReadsAgain changed
    → IsChanged heap blobs (paged before (page_count heap) changed) held in_use
changed_is heap changed held in_use in_file before blobs i end none telling again = record {
  is_heap = record {
    pages = omega arith;
    slots = there;
    placed = placed;
    ids = λ p from till. telling.stands.ids p from till ∙ ap ids_of (sym (slots_are p from));
  };
  sound = λ whole fits. sound after_pages (page_count heap) whole (place_of heap) (page_count heap - 2) placed there fits (omega arith);
  bytes = λ id. bytes_at-all (slots_in after_pages) (page_count heap) (place_of heap) id placed ∙ by_place id (place_of heap id) refl ∙ ap (λ l. after (blob_at l id) (bytes_now heap changed held id)) (sym none) ∙ telling.rest id;
}
  where
    after_pages : ℕ → List ℕ
    after_pages = laid (paged before (page_count heap) changed) held

    slots_are : (p : ℕ) → 2 ≤ p → slots_in (laid (paged before (page_count heap) changed) held) p ≡ slots_now changed held p
    slots_are p from = slots_laid before (page_count heap) changed held again p from

    placed : IsPlaced (slots_in (laid (paged before (page_count heap) changed) held)) (page_count heap) (place_of heap)
    placed = IsPlaced-same (slots_now changed held) (slots_in (laid (paged before (page_count heap) changed) held)) (page_count heap) (place_of heap) slots_are telling.stands.placed

    by_put : (p : ℕ) (o : Option (List Slot)) → at changed p ≡ o → IsThere changed held in_use in_file p → is_some (slots_of (page_or o (held p))) ≡ true
    by_put p (Some slots) e t = rw (again p slots e) refl
    by_put p None e (inl put) = absurd (let gone = ap is_some e in cc)
    by_put p None e (inr kept) = kept.2

    there : (p : ℕ) → 2 ≤ p → p < page_count heap → is_some (slots_of (laid (paged before (page_count heap) changed) held p)) ≡ true
    there p from till = rw (found_paged before (page_count heap) changed p (held p) from) (by_put p (at changed p) refl (telling.stands.there p from till))

    by_place : (id : ℕ) (o : Option ℕ) → place_of heap id ≡ o → option_and_then (λ p. bytes_at (slots_in (laid (paged before (page_count heap) changed) held) p) id) o ≡ option_and_then (λ p. bytes_at (slots_now changed held p) id) o
    by_place id None e = refl
    by_place id (Some p) e = ap (λ xs. bytes_at xs id) (slots_are p (placed.there id p e).0)

-- ---- as the calls say it

pub planned : (old heap : Heap) (changed : List (ℕ × List Slot)) (blobs : List Blob) (i before count : ℕ) (pages : List PageWrite) → before ≡ page_count old → count ≡ page_count heap → entries pages ≡ paged before count changed → (before < count → number_at (root_of count) 0 ≡ count) → Going old heap changed blobs i
    → IsPlan (page_count old) (page_count heap) (entries pages)
planned old heap changed blobs i before count pages before_is count_is pages_are reads going =
    let here : entries pages ≡ paged (page_count old) (page_count heap) changed = pages_are ∙ ap (λ n. paged n count changed) before_is ∙ ap (λ n. paged (page_count old) n changed) count_is in
    let root : page_count old < page_count heap → number_at (root_of (page_count heap)) 0 ≡ page_count heap = λ more. subst (λ n. number_at (root_of n) 0 ≡ n) count_is (reads (omega arith)) in
    subst (λ es. IsPlan (page_count old) (page_count heap) es) (sym here) (plan_is (page_count old) (page_count heap) changed going.grows root (omega arith))

-- at the end nothing is left to change
all_gone : (b : Bool) (blobs : List Blob) (there : ℕ → Bool) → blobs ≡ [] → (b && not (change_something there blobs)) ≡ b
all_gone b [] there none = by_case b
  where
    by_case : (b : Bool) → (b && true) ≡ b
    by_case true = refl
    by_case false = refl
all_gone b (x ∷ blobs) there none = absurd (let f = ap length none in omega (arith, f))

pub planned_none : (old heap : Heap) (changed : List (ℕ × List Slot)) (blobs : List Blob) (i before count : ℕ) (pages : List PageWrite) → before ≡ page_count old → count ≡ page_count heap → entries pages ≡ paged before count changed → length blobs ≤ i → Going old heap changed blobs i
    → eqb (length pages) 0 ≡ not (change_something (λ id. is_some (place_of old id)) blobs)
planned_none old heap changed blobs i before count pages before_is count_is pages_are end going =
    ap (λ n. eqb n 0) (sym (length-entries pages) ∙ ap length (pages_are ∙ ap (λ n. paged n count changed) before_is ∙ ap (λ n. paged (page_count old) n changed) count_is))
    ∙ paged_none (page_count old) (page_count heap) changed going.grows ∙ sym (all_gone (eqb (length changed) 0) (drop i blobs) (λ id. is_some (place_of old id)) (drop_all i blobs end)) ∙ going.nothing

pub planned_lean : (old heap : Heap) (changed : List (ℕ × List Slot)) (held : ℕ → List ℕ) (blobs : List Blob) (i : ℕ) → length blobs ≤ i → Leaning old heap changed held blobs i → page_count old < page_count heap → 2 < page_count old
    → 4096 < used (slots_in held (page_count old - 1) ++ slots_put blobs)
planned_lean old heap changed held blobs i end leaning grown some =
    let none : put_size (drop i blobs) ≡ 2 = ap put_size (drop_all i blobs end) in
    omega (arith, none, leaning.full grown some, used-append (slots_in held (page_count old - 1)) (slots_put blobs))

pub planned_spread : (old heap : Heap) (changed : List (ℕ × List Slot)) (held : ℕ → List ℕ) (blobs : List Blob) (i : ℕ) → length blobs ≤ i → Spreading old heap changed held blobs i → page_count old < page_count heap → (p : ℕ) → 2 ≤ p → p < page_count old
    → 4096 < used (slots_in held p ++ slots_put blobs) + 1024
planned_spread old heap changed held blobs i end spreading grown p from till =
    let none : put_size (drop i blobs) ≡ 2 = ap put_size (drop_all i blobs end) in
    omega (arith, none, spreading.full grown p from till, used-append (slots_in held p) (slots_put blobs))

pub planned_knows : (heap : Heap) (changed : List (ℕ × List Slot)) (held : ℕ → List ℕ) (before count : ℕ) (pages : List PageWrite) → entries pages ≡ paged before count changed → ReadsAgain changed
    → KnowsRoom heap.room (slots_now changed held) (page_count heap) → KnowsRoom heap.room (slots_in (laid (entries pages) held)) (page_count heap)
planned_knows heap changed held before count pages pages_are again knows =
    subst (λ es. KnowsRoom heap.room (slots_in (laid es held)) (page_count heap)) (sym pages_are)
    (knows_same heap.room (slots_now changed held) (slots_in (laid (paged before count changed) held)) (page_count heap) (λ p from till. slots_laid before count changed held again p from) knows)

pub planned_told : (heap : Heap) (changed : List (ℕ × List Slot)) (held : ℕ → List ℕ) (in_use in_file : ℕ) (blobs : List Blob) (i before count : ℕ) (pages : List PageWrite) → count ≡ page_count heap → entries pages ≡ paged before count changed → length blobs ≤ i → ReadsAgain changed
    → Telling heap changed held in_use in_file blobs i → IsChanged heap blobs (entries pages) held in_use
planned_told heap changed held in_use in_file blobs i before count pages count_is pages_are end again telling =
    subst (λ es. IsChanged heap blobs es held in_use) (sym (pages_are ∙ ap (λ n. paged before n changed) count_is)) (changed_is heap changed held in_use in_file before blobs i end (drop_all i blobs end) telling again)
