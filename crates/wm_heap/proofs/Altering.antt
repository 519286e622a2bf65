-- What is left of blobs where those go that say what stands under their ids already.
use Rattle.std.proofs.Common.{◌≡◌, ℕ, ◌≤◌, ◌↔◌, inl, inr, Bool, true, false, cond, not, ◌||◌, eqb, List, [], ◌∷◌, ◌++◌, length, map, filter, Option, Some, None, is_some, IfSome, refl, sym, ap, subst, ◌∙◌, arith}
use Rattle.std.specs.List.{list_any}
use Rattle.std.specs.Option.{option_eq}
use Rattle.std.specs.Str.{bytes_eq}
use Rattle.std.proofs.lemmas.Bool.{eqb-true, or_parts}
use Rattle.std.proofs.lemmas.List.{append-nil}
use Rattle.std.proofs.lemmas.List.Elements.{filter-append}
use Rattle.std.proofs.lemmas.Slice.Eq.{bytes_eq-Decides}
use Rattle.wm_base.proofs.Plain.{nonzero, unless_parts}
use Rattle.wm_spec.specs.Records.{ids_differ}
use Rattle.wm_heap.specs.declared.blob.Blob.{Blob}
use Rattle.wm_heap.specs.declared.heap.Heap.{Heap}
use Rattle.wm_heap.specs.Blobs.{blob_at, after, alters, moves, AreBlobs, AreBytes, AreSmall, AreSomeOf, OverBytes, change_something, slots_put}
use Rattle.wm_heap.specs.Content.{bytes_at, content}
use Rattle.wm_heap.specs.Places.{place_of, IsHeapOf}
use Rattle.wm_heap.specs.Draft.{slot_size}
use Rattle.wm_heap.specs.Plan.{IsChanged}
use Rattle.wm_heap.specs.Slots.{used}
use Rattle.wm_heap.proofs.Getting.{bytes_there, bytes_nowhere, page_there}
use Rattle.wm_heap.proofs.Planning.{AreBlobs-rest}
use Rattle.wm_heap.proofs.Sizes.{used-least, used-put}

-- ---- the test of a blob

option_eq-decides : (o p : Option (List ℕ)) → (option_eq bytes_eq o p ≡ true) ↔ (o ≡ p)
option_eq-decides None None = (λ e. refl, λ e. refl)
option_eq-decides None (Some y) = (λ e. absurd cc, λ e. absurd cc)
option_eq-decides (Some x) None = (λ e. absurd cc, λ e. absurd cc)
option_eq-decides (Some x) (Some y) = (
  λ e. ap (λ l. Some l) ((bytes_eq-Decides x y).0 e),
  λ e. (let same : x ≡ y = cc in (bytes_eq-Decides x y).1 same),
)

-- one that says what stands there alters nothing
pub alters_not : (standing : ℕ → Option (List ℕ)) (b : Blob) → standing b.id ≡ b.bytes → alters standing b ≡ false
alters_not standing b same = ap not ((option_eq-decides (standing b.id) b.bytes).1 same)

-- and one that alters nothing says what stands there
pub same_unless : (standing : ℕ → Option (List ℕ)) (b : Blob) → alters standing b ≡ false → standing b.id ≡ b.bytes
same_unless standing b e = by_test (option_eq bytes_eq (standing b.id) b.bytes) refl e
  where
    by_test : (t : Bool) → option_eq bytes_eq (standing b.id) b.bytes ≡ t → not t ≡ false → standing b.id ≡ b.bytes
    by_test true f n = (option_eq-decides (standing b.id) b.bytes).0 f
    by_test false f n = absurd cc

-- a test of whether it says what stands there tells
pub alters_told : (standing : ℕ → Option (List ℕ)) (b : Blob) (same : Bool) → ((same ≡ true) ↔ (standing b.id ≡ b.bytes)) → not same ≡ alters standing b
alters_told standing b true tells = sym (alters_not standing b (tells.0 refl))
alters_told standing b false tells = by_test (alters standing b) refl
  where
    by_test : (t : Bool) → alters standing b ≡ t → true ≡ t
    by_test true e = refl
    by_test false e = absurd (let yes = tells.1 (same_unless standing b e) in cc)

-- where nothing stands, one that puts bytes alters
pub alters_nowhere : (standing : ℕ → Option (List ℕ)) (b : Blob) → standing b.id ≡ None → is_some b.bytes ≡ alters standing b
alters_nowhere standing b none = by_bytes b.bytes ∙ ap (λ (o : Option (List ℕ)). not (option_eq bytes_eq o b.bytes)) (sym none)
  where
    by_bytes : (o : Option (List ℕ)) → is_some o ≡ not (option_eq bytes_eq None o)
    by_bytes None = refl
    by_bytes (Some bytes) = refl

-- and where bytes stand, one that drops them does
pub alters_dropped : (standing : ℕ → Option (List ℕ)) (b : Blob) → is_some (standing b.id) ≡ true → b.bytes ≡ None → alters standing b ≡ true
alters_dropped standing b some none = ap (λ (o : Option (List ℕ)). not (option_eq bytes_eq (standing b.id) o)) none ∙ by_bytes (standing b.id) some
  where
    by_bytes : (o : Option (List ℕ)) → is_some o ≡ true → not (option_eq bytes_eq o None) ≡ true
    by_bytes None e = absurd cc
    by_bytes (Some bytes) e = refl

-- ---- one blob after another

some_skipped : (some blobs : List Blob) (b : Blob) → AreSomeOf some blobs → AreSomeOf some (blobs ++ b ∷ [])
some_skipped [] blobs b are = tt
some_skipped (s ∷ some) [] b are = absurd are
some_skipped (s ∷ some) (d ∷ blobs) b (inl first) = inl (first.0, some_skipped some blobs b first.1)
some_skipped (s ∷ some) (d ∷ blobs) b (inr later) = inr (some_skipped (s ∷ some) blobs b later)

some_pushed : (some blobs : List Blob) (b : Blob) → AreSomeOf some blobs → AreSomeOf (some ++ b ∷ []) (blobs ++ b ∷ [])
some_pushed [] [] b are = inl (refl, tt)
some_pushed [] (d ∷ blobs) b are = inr (some_pushed [] blobs b tt)
some_pushed (s ∷ some) [] b are = absurd are
some_pushed (s ∷ some) (d ∷ blobs) b (inl first) = inl (first.0, some_pushed some blobs b first.1)
some_pushed (s ∷ some) (d ∷ blobs) b (inr later) = inr (some_pushed (s ∷ some) blobs b later)

both_pushed : (test : Blob → Bool) (left blobs : List Blob) (b : Blob) → filter test left ≡ filter test blobs → filter test (left ++ b ∷ []) ≡ filter test (blobs ++ b ∷ [])
both_pushed test left blobs b same = filter-append test left (b ∷ []) ∙ ap (λ l. l ++ filter test (b ∷ [])) same ∙ sym (filter-append test blobs (b ∷ []))

filter_pushed : (test : Blob → Bool) (left blobs : List Blob) (b : Blob) → left ≡ filter test blobs → test b ≡ true → left ++ b ∷ [] ≡ filter test (blobs ++ b ∷ [])
filter_pushed test left blobs b are e =
    let one : filter test (b ∷ []) ≡ b ∷ [] = rw e refl in
    ap (λ l. l ++ b ∷ []) are ∙ ap (λ l. filter test blobs ++ l) (sym one) ∙ sym (filter-append test blobs (b ∷ []))

filter_skipped : (test : Blob → Bool) (left blobs : List Blob) (b : Blob) → left ≡ filter test blobs → test b ≡ false → left ≡ filter test (blobs ++ b ∷ [])
filter_skipped test left blobs b are e =
    let one : filter test (b ∷ []) ≡ [] = rw e refl in
    are ∙ sym (append-nil (filter test blobs)) ∙ ap (λ l. filter test blobs ++ l) (sym one) ∙ sym (filter-append test blobs (b ∷ []))

OverBytes-push : (standing : ℕ → Option (List ℕ)) (blobs : List Blob) (b : Blob) → OverBytes standing blobs → (is_some b.bytes ≡ true → AreBytes (standing b.id)) → OverBytes standing (blobs ++ b ∷ [])
OverBytes-push standing [] b over read = (read, tt)
OverBytes-push standing (d ∷ blobs) b over read = (over.0, OverBytes-push standing blobs b over.1 read)

-- what is known of the blobs that are left of those looked at so far, whatever the pages hold
pub record Leaving (there : ℕ → Bool) (left blobs : List Blob) : Type 0 where
  pub some : AreSomeOf left blobs
  pub moved : filter (moves there) left ≡ filter (moves there) blobs

pub leaving_pushed : (there : ℕ → Bool) (left blobs : List Blob) (b : Blob) → Leaving there left blobs → Leaving there (left ++ b ∷ []) (blobs ++ b ∷ [])
leaving_pushed there left blobs b leaving = record {
  some = some_pushed left blobs b leaving.some;
  moved = both_pushed (moves there) left blobs b leaving.moved;
}

pub leaving_skipped : (there : ℕ → Bool) (left blobs : List Blob) (b : Blob) (answer : Bool) → Leaving there left blobs → (moves there b ≡ true → answer ≡ true) → answer ≡ false → Leaving there left (blobs ++ b ∷ [])
leaving_skipped there left blobs b answer leaving moved e = record {
  some = some_skipped left blobs b leaving.some;
  moved = filter_skipped (moves there) (filter (moves there) left) blobs b leaving.moved (by_test (moves there b) refl);
}
  where
    by_test : (t : Bool) → moves there b ≡ t → t ≡ false
    by_test true f = absurd (let always = moved f in cc)
    by_test false f = refl

-- what is known besides where the pages are told
pub record Altered (standing : ℕ → Option (List ℕ)) (left blobs : List Blob) : Type 0 where
  pub altering : left ≡ filter (alters standing) blobs
  pub read : OverBytes standing blobs

-- what stands under each id, of the same pages
pub standing_same : (held there : ℕ → List ℕ) (in_use use_there : ℕ) → there ≡ held → use_there ≡ in_use → bytes_at (content there use_there) ≡ bytes_at (content held in_use)
standing_same held there in_use use_there same use_same = ap (λ h. bytes_at (content h use_there)) same ∙ ap (λ u. bytes_at (content held u)) use_same

pub altered_pushed : (standing there : ℕ → Option (List ℕ)) (left blobs : List Blob) (b : Blob) (answer : Bool) → there ≡ standing → Altered standing left blobs → answer ≡ alters there b → (is_some b.bytes ≡ true → AreBytes (there b.id)) → answer ≡ true
    → Altered standing (left ++ b ∷ []) (blobs ++ b ∷ [])
altered_pushed standing there left blobs b answer same altered is read e = record {
  altering = filter_pushed (alters standing) left blobs b altered.altering (ap (λ s. alters s b) (sym same) ∙ sym is ∙ e);
  read = OverBytes-push standing blobs b altered.read (subst (λ s. is_some b.bytes ≡ true → AreBytes (s b.id)) same read);
}

pub altered_skipped : (standing there : ℕ → Option (List ℕ)) (left blobs : List Blob) (b : Blob) (answer : Bool) → there ≡ standing → Altered standing left blobs → answer ≡ alters there b → (is_some b.bytes ≡ true → AreBytes (there b.id)) → answer ≡ false
    → Altered standing left (blobs ++ b ∷ [])
altered_skipped standing there left blobs b answer same altered is read e = record {
  altering = filter_skipped (alters standing) left blobs b altered.altering (ap (λ s. alters s b) (sym same) ∙ sym is ∙ e);
  read = OverBytes-push standing blobs b altered.read (subst (λ s. is_some b.bytes ≡ true → AreBytes (s b.id)) same read);
}

-- ---- what some of the blobs keep

pub length-some : (some blobs : List Blob) → AreSomeOf some blobs → length some ≤ length blobs
length-some [] blobs are = omega arith
length-some (s ∷ some) [] are = absurd are
length-some (s ∷ some) (b ∷ blobs) (inl first) = omega (arith, length-some some blobs first.1)
length-some (s ∷ some) (b ∷ blobs) (inr later) = omega (arith, length-some (s ∷ some) blobs later)

-- what they put takes no more bytes
pub used-some : (some blobs : List Blob) → AreSomeOf some blobs → used (slots_put some) ≤ used (slots_put blobs)
used-some [] blobs are = used-least (slots_put blobs)
used-some (s ∷ some) [] are = absurd are
used-some (s ∷ some) (b ∷ blobs) (inl first) = omega (arith, used-some some blobs first.1, used-put s some, used-put b blobs, ap (λ (x : Blob). slot_size x.bytes) first.0)
used-some (s ∷ some) (b ∷ blobs) (inr later) = omega (arith, used-some (s ∷ some) blobs later, used-put b blobs)

pub AreSmall-some : (some blobs : List Blob) → AreSomeOf some blobs → AreSmall blobs → AreSmall some
AreSmall-some [] blobs are small = tt
AreSmall-some (s ∷ some) [] are small = absurd are
AreSmall-some (s ∷ some) (b ∷ blobs) (inl first) small = (subst (λ (x : Blob). IfSome x.bytes (λ bytes. length bytes ≤ 4084)) (sym first.0) small.0, AreSmall-some some blobs first.1 small.1)
AreSmall-some (s ∷ some) (b ∷ blobs) (inr later) small = AreSmall-some (s ∷ some) blobs later small.1

-- a test that finds none of them finds none of some
none_found : (test : Blob → Bool) (some blobs : List Blob) → AreSomeOf some blobs → list_any test blobs ≡ false → list_any test some ≡ false
none_found test [] blobs are none = refl
none_found test (s ∷ some) [] are none = absurd are
none_found test (s ∷ some) (b ∷ blobs) (inl first) none =
    let parts = or_parts (test b) (list_any test blobs) none in
    rw (ap test first.0 ∙ parts.0) (none_found test some blobs first.1 parts.1)
none_found test (s ∷ some) (b ∷ blobs) (inr later) none = none_found test (s ∷ some) blobs later (or_parts (test b) (list_any test blobs) none).1

-- where they change nothing, some of them change nothing
pub change_something-some : (there : ℕ → Bool) (some blobs : List Blob) → AreSomeOf some blobs → change_something there blobs ≡ false → change_something there some ≡ false
change_something-some there some blobs are none = none_found (λ b. is_some b.bytes || there b.id) some blobs are none

any_id : (id : ℕ) (blobs : List Blob) → list_any (λ other. eqb other id) (map (λ (b : Blob). b.id) blobs) ≡ list_any (λ (b : Blob). eqb b.id id) blobs
any_id id [] = refl
any_id id (b ∷ blobs) = ap (λ t. eqb b.id id || t) (any_id id blobs)

pub AreBlobs-some : (some blobs : List Blob) → AreSomeOf some blobs → AreBlobs blobs → AreBlobs some
unfolding ids_differ
AreBlobs-some [] blobs are once = refl
AreBlobs-some (s ∷ some) [] are once = absurd are
AreBlobs-some (s ∷ some) (b ∷ blobs) (inl first) once =
    let parts = unless_parts (list_any (λ other. eqb other b.id) (map (λ (x : Blob). x.id) blobs)) (ids_differ (map (λ (x : Blob). x.id) blobs)) once in
    let none : list_any (λ other. eqb other s.id) (map (λ (x : Blob). x.id) some) ≡ false =
    any_id s.id some ∙ none_found (λ (x : Blob). eqb x.id s.id) some blobs first.1 (subst (λ (d : Blob). list_any (λ (x : Blob). eqb x.id d.id) blobs ≡ false) (sym first.0) (sym (any_id b.id blobs) ∙ parts.0)) in
    rw none (AreBlobs-some some blobs first.1 parts.1)
AreBlobs-some (s ∷ some) (b ∷ blobs) (inr later) once =
    let parts = unless_parts (list_any (λ other. eqb other b.id) (map (λ (x : Blob). x.id) blobs)) (ids_differ (map (λ (x : Blob). x.id) blobs)) once in
    AreBlobs-some (s ∷ some) blobs later parts.1

-- ---- what those that alter do

-- an id has a place where bytes stand under it
pub place_told : (heap : Heap) (held : ℕ → List ℕ) (count id : ℕ) → IsHeapOf heap held count → is_some (place_of heap id) ≡ is_some (bytes_at (content held count) id)
place_told heap held count id is_heap = by_place (place_of heap id) refl
  where
    by_place : (o : Option ℕ) → place_of heap id ≡ o → is_some o ≡ is_some (bytes_at (content held count) id)
    by_place None e = ap is_some (sym (bytes_nowhere heap held count id is_heap e))
    by_place (Some page) e = sym (ap is_some (bytes_there heap held count id page is_heap e) ∙ (page_there heap held count id page is_heap e).2)

-- each of those that alter puts bytes, or drops some that are there
pub all_change : (there : ℕ → Bool) (standing : ℕ → Option (List ℕ)) (blobs : List Blob) → ((id : ℕ) → there id ≡ is_some (standing id)) → not (change_something there (filter (alters standing) blobs)) ≡ eqb (length (filter (alters standing) blobs)) 0
all_change there standing [] tells = refl
all_change there standing (b ∷ blobs) tells = by_test (alters standing b) refl (all_change there standing blobs tells)
  where
    by_bytes : (o : Option (List ℕ)) → b.bytes ≡ o → (p : Option (List ℕ)) → standing b.id ≡ p → not (option_eq bytes_eq p o) ≡ true → (is_some o || is_some p) ≡ true
    by_bytes (Some x) e p f n = refl
    by_bytes None e (Some y) f n = refl
    by_bytes None e None f n = absurd cc

    by_test : (t : Bool) → alters standing b ≡ t → not (change_something there (filter (alters standing) blobs)) ≡ eqb (length (filter (alters standing) blobs)) 0
        → not (change_something there (cond t (b ∷ filter (alters standing) blobs) (filter (alters standing) blobs))) ≡ eqb (length (cond t (b ∷ filter (alters standing) blobs) (filter (alters standing) blobs))) 0
    by_test true e rest = let yes : (is_some b.bytes || there b.id) ≡ true = ap (λ t. is_some b.bytes || t) (tells b.id) ∙ by_bytes b.bytes refl (standing b.id) refl e in rw yes (sym (nonzero (length (b ∷ filter (alters standing) blobs)) (omega arith)))
    by_test false e rest = rest

-- what the others say stands there already
after_altering : (standing : ℕ → Option (List ℕ)) (blobs : List Blob) → AreBlobs blobs → (id : ℕ) → after (blob_at (filter (alters standing) blobs) id) (standing id) ≡ after (blob_at blobs id) (standing id)
after_altering standing [] once id = refl
after_altering standing (b ∷ blobs) once id =
    let parts = AreBlobs-rest b blobs once in
    by_test (alters standing b) refl (eqb b.id id) refl parts.0 (after_altering standing blobs parts.1 id)
  where
    by_test : (t : Bool) → alters standing b ≡ t → (d : Bool) → eqb b.id id ≡ d → blob_at blobs b.id ≡ None → after (blob_at (filter (alters standing) blobs) id) (standing id) ≡ after (blob_at blobs id) (standing id)
        → after (blob_at (cond t (b ∷ filter (alters standing) blobs) (filter (alters standing) blobs)) id) (standing id) ≡ after (cond d (Some b.bytes) (blob_at blobs id)) (standing id)
    by_test true e true f none rest = rw f refl
    by_test true e false f none rest = rw f rest
    by_test false e false f none rest = rest
    by_test false e true f none rest =
        let same = eqb-true b.id id f in
        let gone : blob_at blobs id ≡ None = subst (λ k. blob_at blobs k ≡ None) same none in
        rest ∙ ap (λ o. after o (standing id)) gone ∙ ap standing (sym same) ∙ same_unless standing b e

-- a store that is changed by those that alter is changed by all
pub changed_altering : (heap : Heap) (blobs left : List Blob) (pages : List (ℕ × List ℕ)) (held : ℕ → List ℕ) (before : ℕ) → AreBlobs blobs → left ≡ filter (alters (bytes_at (content held before))) blobs → IsChanged heap left pages held before → IsChanged heap blobs pages held before
changed_altering heap blobs left pages held before once are changed = record {
  is_heap = changed.is_heap;
  sound = changed.sound;
  bytes = λ id. changed.bytes id ∙ ap (λ l. after (blob_at l id) (bytes_at (content held before) id)) are ∙ after_altering (bytes_at (content held before)) blobs once id;
}
