-- What a store holds after a batch.
use Rattle.std.proofs.Common.{◌≡◌, ℕ, ◌+◌, ◌-◌, ◌*◌, ◌<◌, ◌≤◌, ◌⊎◌, inl, inr, Bool, true, false, cond, eqb, ltb, List, [], ◌∷◌, length, map, Option, Some, None, is_some, IfSome, Ok, refl, sym, ap, subst, ◌∙◌, arith}
use Rattle.std.specs.Option.{option_map, option_and_then}
use Rattle.std.proofs.lemmas.Bool.{cases_lt, lt-ltb, le-ltb, eqb-true}
use Rattle.std.proofs.lemmas.List.{length-map}
use Rattle.wm_spec.specs.declared.record.Record.{Record}
use Rattle.wm_spec.specs.declared.record.stored.Stored.{Stored}
use Rattle.wm_spec.specs.declared.record.batch.Change.{Change}
use Rattle.wm_spec.specs.Records.{record_at, change_at, ids_differ, AreChanges, AfterBatch}
use Rattle.wm_page.proofs.Batches.{length-entries}
use Rattle.wm_page.specs.Batch.{entries}
use Rattle.wm_page.specs.declared.write.PageWrite.{PageWrite}
use Rattle.wm_page.specs.Entries.{is_named, found}
use Rattle.wm_page.specs.Fields.{number_at}
use Rattle.wm_codec.specs.Reading.{record_of}
use Rattle.wm_codec.specs.Spelling.{HasSpelling, spelling}
use Rattle.wm_codec.proofs.ExactRecords.{record_again}
use Rattle.wm_journal.specs.Disk.{are_below}
use Rattle.wm_journal.specs.Store.{count_after}
use Rattle.wm_heap.specs.declared.blob.Blob.{Blob}
use Rattle.wm_heap.specs.declared.heap.Heap.{Heap}
use Rattle.wm_heap.specs.declared.slot.Slot.{Slot}
use Rattle.wm_heap.specs.Blobs.{blob_at, after, AreBlobs, AreSmall}
use Rattle.wm_heap.specs.Content.{bytes_at, slots_in, content}
use Rattle.wm_heap.specs.Places.{page_count, Once, IsHeapOf}
use Rattle.wm_heap.specs.Plan.{IsPlan, IsChanged, laid}
use Rattle.wm_heap.proofs.Getting.{bytes_there}
use Rattle.wm_store.specs.Opened.{records_in, are_records, unread_in, pages_opened}
use Rattle.wm_store.specs.Spelled.{HaveSpellings, blob_of, blobs_of}
use Rattle.wm_store.proofs.Reading.{record_at-records_in, bytes_read, unread_none, all_read}
use Rattle.wm_store.proofs.Opening.{pages_found, passed}

-- ---- the batch, as the heap and the journal take it

pub blobs_once : (changes : List Change) → AreChanges changes → AreBlobs (blobs_of changes)
blobs_once changes once = ap ids_differ (same_ids changes) ∙ once
  where
    same_ids : (changes : List Change) → map (λ (b : Blob). b.id) (blobs_of changes) ≡ map (λ (c : Change). c.id) changes
    same_ids [] = refl
    same_ids (c ∷ changes) = ap (λ l. c.id ∷ l) (same_ids changes)

pub blobs_small : (changes : List Change) → HaveSpellings changes → AreSmall (blobs_of changes)
blobs_small [] all = tt
blobs_small (c ∷ changes) all = (by_record c.becomes all.0, blobs_small changes all.1)
  where
    by_record : (o : Option Record) → IfSome o (λ r. HasSpelling r × (length (spelling r) ≤ 4084)) → IfSome (option_map spelling o) (λ bytes. length bytes ≤ 4084)
    by_record None h = tt
    by_record (Some r) h = h.1

-- as many pages as the heap plans, said of the changes
pub few_rewritten : (changes : List Change) (blobs : List Blob) (writes : List PageWrite) → blobs ≡ blobs_of changes → length writes ≤ 2 * length blobs + 2 → length (entries writes) ≤ 2 * length changes + 2
few_rewritten changes blobs writes are few = omega (arith, few, ap length are, length-map changes blob_of, length-entries writes)

blob_at-blobs_of : (changes : List Change) (id : ℕ) → blob_at (blobs_of changes) id ≡ option_map (λ becomes. option_map spelling becomes) (change_at changes id)
unfolding change_at
blob_at-blobs_of [] id = refl
blob_at-blobs_of (c ∷ changes) id = by_test (eqb c.id id) (blob_at-blobs_of changes id)
  where
    by_test : (t : Bool) → blob_at (blobs_of changes) id ≡ option_map (λ becomes. option_map spelling becomes) (change_at changes id)
        → cond t (Some (option_map spelling c.becomes)) (blob_at (blobs_of changes) id) ≡ option_map (λ becomes. option_map spelling becomes) (cond t (Some c.becomes) (change_at changes id))
    by_test true rest = refl
    by_test false rest = rest

-- each record of a batch is read again
pub spelled_again : (changes : List Change) (id : ℕ) (r : Record) → HaveSpellings changes → change_at changes id ≡ Some (Some r) → record_of (spelling r) ≡ Some r
unfolding change_at
spelled_again [] id r all e = absurd cc
spelled_again (c ∷ changes) id r all e = by_test (eqb c.id id) e (λ rest. spelled_again changes id r all.1 rest)
  where
    by_record : (o : Option Record) → IfSome o (λ r. HasSpelling r × (length (spelling r) ≤ 4084)) → Some o ≡ Some (Some r) → record_of (spelling r) ≡ Some r
    by_record None h e = absurd cc
    by_record (Some q) h e = let same : q ≡ r = cc in subst (λ x. record_of (spelling x) ≡ Some x) same (record_again q h.0)

    by_test : (t : Bool) → cond t (Some c.becomes) (change_at changes id) ≡ Some (Some r) → (change_at changes id ≡ Some (Some r) → record_of (spelling r) ≡ Some r) → record_of (spelling r) ≡ Some r
    by_test true e rest = by_record c.becomes all.0 e
    by_test false e rest = rest e

-- ---- the journal's terms

count_after-is : (count : ℕ) (es : List (ℕ × List ℕ)) → count_after count es ≡ cond (is_named 1 es) (number_at (found 1 es []) 0) count
count_after-is count [] = refl
count_after-is count (e ∷ es) = by_test (eqb 1 e.0) (count_after-is count es)
  where
    by_test : (t : Bool) → count_after count es ≡ cond (is_named 1 es) (number_at (found 1 es []) 0) count
        → cond t (number_at e.1 0) (count_after count es) ≡ cond (cond t true (is_named 1 es)) (number_at (cond t e.1 (found 1 es [])) 0) count
    by_test true rest = refl
    by_test false rest = rest

pub count_planned : (before count : ℕ) (es : List (ℕ × List ℕ)) → IsPlan before count es → count_after before es ≡ count
count_planned before count es plan = count_after-is before es ∙ by_root (is_named 1 es) plan.root (cases_lt before count)
  where
    by_root : (b : Bool) → b ≡ ltb before count → (before < count) ⊎ (count ≤ before) → cond b (number_at (found 1 es []) 0) before ≡ count
    by_root true e (inl more) = plan.counted more
    by_root true e (inr same) = absurd (let t : ltb before count ≡ false = le-ltb before count same in cc)
    by_root false e (inl more) = absurd (let t : ltb before count ≡ true = lt-ltb before count more in cc)
    by_root false e (inr same) = let up = plan.no_fewer in omega arith

pub below_planned : (limit : ℕ) (es : List (ℕ × List ℕ)) → ((p : ℕ) → is_named p es ≡ true → (1 ≤ p) × (p < limit)) → are_below limit es ≡ true
below_planned limit [] within = refl
below_planned limit (e ∷ es) within =
    let here : is_named e.0 (e ∷ es) ≡ true = (let t : eqb e.0 e.0 ≡ true = grind arith in rw t refl) in
    let bounds = within e.0 here in
    let low : ltb 0 e.0 ≡ true = lt-ltb 0 e.0 bounds.0 in
    let high : ltb e.0 limit ≡ true = lt-ltb e.0 limit bounds.1 in
    rw (low, high) (below_planned limit es (λ p named. within p (by_test p (eqb p e.0) named)))
  where
    by_test : (p : ℕ) (t : Bool) → is_named p es ≡ true → cond t true (is_named p es) ≡ true
    by_test p true named = refl
    by_test p false named = named

-- ---- what the pages hold then

-- every slot of a page stands under its id
are_records-once : (slots : List Slot) → Once slots → ((id : ℕ) (bytes : List ℕ) → bytes_at slots id ≡ Some bytes → is_some (record_of bytes) ≡ true) → are_records slots ≡ true
are_records-once [] once all = refl
are_records-once (s ∷ slots) once all =
    let head : is_some (record_of s.bytes) ≡ true = all s.id s.bytes (let t : eqb s.id s.id ≡ true = grind arith in rw t refl) in
    rw head (are_records-once slots once.1 (λ id bytes e. all id bytes (by_test id bytes (eqb s.id id) refl e)))
  where
    by_test : (id : ℕ) (bytes : List ℕ) (t : Bool) → eqb s.id id ≡ t → bytes_at slots id ≡ Some bytes → cond t (Some s.bytes) (bytes_at slots id) ≡ Some bytes
    by_test id bytes true f e = absurd (let same = eqb-true s.id id f in let none : bytes_at slots id ≡ None = rw (← same) once.0 in cc)
    by_test id bytes false f e = e

some_is : (o : Option (List ℕ)) (bytes : List ℕ) → o ≡ Some bytes → is_some o ≡ true
some_is (Some b) bytes e = refl
some_is None bytes e = absurd cc

-- pages of a heap whose bytes are all records
read_heap : (heap : Heap) (pages : ℕ → List ℕ) (count : ℕ) → 2 ≤ count → IsHeapOf heap pages count → ((id : ℕ) (bytes : List ℕ) → bytes_at (content pages count) id ≡ Some bytes → is_some (record_of bytes) ≡ true)
    → unread_in (slots_in pages) (count - 2) ≡ None
read_heap heap pages count enough is_heap all =
    all_read (slots_in pages) (count - 2) (λ p from till.
    are_records-once (slots_in pages p) (is_heap.placed.once p from (omega arith)) (λ id bytes e.
    all id bytes (bytes_there heap pages count id p is_heap (is_heap.placed.only id p from (omega arith) (some_is (bytes_at (slots_in pages p) id) bytes e)) ∙ e)))

-- after a change the pages are read, and their records are those from before with the batch over them
pub record Changes (old : List Stored) (changes : List Change) (pages : ℕ → List ℕ) (count : ℕ) : Type 0 where
  pub new : List Stored
  pub opens : pages_opened pages count count ≡ Ok new
  pub are : AfterBatch old changes new

pub changed_pages : (heap : Heap) (changes : List Change) (es : List (ℕ × List ℕ)) (pages : ℕ → List ℕ) (before : ℕ) (old : List Stored) → HaveSpellings changes → IsChanged heap (blobs_of changes) es pages before → 2 ≤ page_count heap
    → pages_opened pages before before ≡ Ok old → Changes old changes (laid es pages) (page_count heap)
changed_pages heap changes es pages before old all changed enough opens =
    let was = passed pages before before old opens in
    let old_read : are_records (content pages before) ≡ true = unread_none (slots_in pages) (before - 2) was.read in
    let read : unread_in (slots_in (laid es pages)) (page_count heap - 2) ≡ None = read_heap heap (laid es pages) (page_count heap) enough changed.is_heap (λ id bytes e. good id bytes old_read (sym (changed.bytes id) ∙ e)) in
    let new_read : are_records (content (laid es pages) (page_count heap)) ≡ true = unread_none (slots_in (laid es pages)) (page_count heap - 2) read in
    record {
      new = records_in (content (laid es pages) (page_count heap));
      opens = pages_found (laid es pages) (page_count heap) (page_count heap) (records_in (content (laid es pages) (page_count heap))) (changed.sound (page_count heap) (omega arith)) read refl;
      are = λ id.
          record_at-records_in (content (laid es pages) (page_count heap)) id new_read ∙ ap (λ o. option_and_then record_of o) (changed.bytes id)
          ∙ by_change id (change_at changes id) refl (record_at-records_in (content pages before) id old_read ∙ refl) was.are;
    }
  where
    option_read : (o : Option (List ℕ)) (bytes : List ℕ) → option_and_then record_of o ≡ None → o ≡ Some bytes → record_of bytes ≡ None
    option_read (Some b) bytes e f = let same : b ≡ bytes = cc in subst (λ x. record_of x ≡ None) same e
    option_read None bytes e f = absurd cc

    by_said : (id : ℕ) (bytes : List ℕ) (o : Option (Option Record)) → change_at changes id ≡ o → are_records (content pages before) ≡ true → after (option_map (λ becomes. option_map spelling becomes) o) (bytes_at (content pages before) id) ≡ Some bytes → is_some (record_of bytes) ≡ true
    by_said id bytes None e are f = bytes_read (content pages before) id bytes are f
    by_said id bytes (Some None) e are f = absurd cc
    by_said id bytes (Some (Some r)) e are f = let same : spelling r ≡ bytes = cc in subst (λ x. is_some (record_of x) ≡ true) same (ap is_some (spelled_again changes id r all e))

    good : (id : ℕ) (bytes : List ℕ) → are_records (content pages before) ≡ true → after (blob_at (blobs_of changes) id) (bytes_at (content pages before) id) ≡ Some bytes → is_some (record_of bytes) ≡ true
    good id bytes are f = by_said id bytes (change_at changes id) refl are (sym (ap (λ o. after o (bytes_at (content pages before) id)) (blob_at-blobs_of changes id)) ∙ f)

    by_change : (id : ℕ) (o : Option (Option Record)) → change_at changes id ≡ o → record_at (records_in (content pages before)) id ≡ option_and_then record_of (bytes_at (content pages before) id) → records_in (content pages before) ≡ old
        → option_and_then record_of (after (blob_at (blobs_of changes) id) (bytes_at (content pages before) id)) ≡ after o (record_at old id)
    by_change id o e was are =
        ap (λ b. option_and_then record_of (after b (bytes_at (content pages before) id))) (blob_at-blobs_of changes id ∙ ap (λ c. option_map (λ becomes. option_map spelling becomes) c) e) ∙ by_case o e
      where
        by_case : (o : Option (Option Record)) → change_at changes id ≡ o → option_and_then record_of (after (option_map (λ becomes. option_map spelling becomes) o) (bytes_at (content pages before) id)) ≡ after o (record_at old id)
        by_case None f = sym was ∙ ap (λ l. record_at l id) are
        by_case (Some None) f = refl
        by_case (Some (Some r)) f = spelled_again changes id r all f
