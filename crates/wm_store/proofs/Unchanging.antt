-- A batch alters the bytes of those records alone that it changes.
use Rattle.std.proofs.Common.{◌≡◌, ℕ, ◌+◌, ◌*◌, ◌-◌, ◌≤◌, true, List, [], ◌∷◌, length, Option, Some, None, is_some, Ok, refl, sym, ap, subst, ◌∙◌, arith}
use Rattle.std.specs.Option.{option_and_then, option_map}
use Rattle.wm_spec.specs.declared.record.Record.{Record}
use Rattle.wm_spec.specs.declared.record.stored.Stored.{Stored}
use Rattle.wm_spec.specs.declared.record.batch.Change.{Change}
use Rattle.wm_spec.specs.Records.{record_at}
use Rattle.wm_base.proofs.Plain.{some_mapped}
use Rattle.wm_page.proofs.Batches.{length-entries}
use Rattle.wm_page.specs.Batch.{entries}
use Rattle.wm_page.specs.declared.write.PageWrite.{PageWrite}
use Rattle.wm_codec.specs.Reading.{record_of}
use Rattle.wm_codec.specs.Spelling.{spelling}
use Rattle.wm_codec.proofs.Exact.{IsBytes}
use Rattle.wm_codec.proofs.ExactRecords.{record_takes}
use Rattle.wm_station.specs.History.{History, now}
use Rattle.wm_journal.specs.Disk.{page}
use Rattle.wm_journal.specs.Store.{IsAtRest}
use Rattle.wm_heap.specs.declared.blob.Blob.{Blob}
use Rattle.wm_heap.specs.declared.slot.Slot.{Slot}
use Rattle.wm_heap.specs.Blobs.{AreBytes, OverBytes}
use Rattle.wm_heap.specs.Content.{bytes_at, slots_in, content}
use Rattle.wm_store.specs.Few.{AlterOnly, PutsFew}
use Rattle.wm_store.specs.Opened.{records_in, are_records, opened}
use Rattle.wm_store.specs.Spelled.{blobs_of}
use Rattle.wm_store.specs.Stores.{ChangesNothing, ChangesOnly}
use Rattle.wm_store.proofs.Reading.{record_at-records_in, bytes_read, unread_none}
use Rattle.wm_store.proofs.Opening.{passed}
use Rattle.wm_store.proofs.Storing.{pages_held}

-- where a record is what it was, so are its bytes: a record has one spelling, and nothing stands where there is none
same_bytes : (slots : List Slot) (records : List Stored) (id : ℕ) (becomes : Option Record) → are_records slots ≡ true → records_in slots ≡ records → (is_some becomes ≡ true → AreBytes (bytes_at slots id)) → record_at records id ≡ becomes → bytes_at slots id ≡ option_map spelling becomes
same_bytes slots records id becomes all is read says =
    by_bytes (bytes_at slots id) refl read (sym (record_at-records_in slots id all) ∙ ap (λ l. record_at l id) is ∙ says)
  where
    by_record : (bytes : List ℕ) (o : Option Record) → record_of bytes ≡ o → is_some o ≡ true → (is_some becomes ≡ true → IsBytes bytes) → o ≡ becomes → Some bytes ≡ option_map spelling becomes
    by_record bytes None e some are f = absurd cc
    by_record bytes (Some r) e some are f = ap (λ b. Some b) (record_takes bytes r (are (ap is_some (sym f))) e).1 ∙ ap (λ o. option_map spelling o) f

    by_bytes : (o : Option (List ℕ)) → bytes_at slots id ≡ o → (is_some becomes ≡ true → AreBytes o) → option_and_then record_of o ≡ becomes → o ≡ option_map spelling becomes
    by_bytes None e are f = ap (λ o. option_map spelling o) f
    by_bytes (Some bytes) e are f = by_record bytes (record_of bytes) refl (bytes_read slots id bytes all e) are f

alters_only : (ids : List ℕ) (slots : List Slot) (records : List Stored) (changes : List Change) → are_records slots ≡ true → records_in slots ≡ records → OverBytes (bytes_at slots) (blobs_of changes) → ChangesOnly ids records changes → AlterOnly ids (bytes_at slots) (blobs_of changes)
alters_only ids slots records [] all is over only = tt
alters_only ids slots records (c ∷ changes) all is over only =
    (λ out. same_bytes slots records c.id c.becomes all is (λ some. over.0 (some_mapped spelling c.becomes ∙ some)) (only.0 out), alters_only ids slots records changes all is over.1 only.1)

-- ---- as the calls say it

planned_only : (old : History) (before count : ℕ) (changes slice : List Change) (blobs : List Blob) (pages : List PageWrite) (records : List Stored) → IsAtRest old before → 3 ≤ count → count ≡ before → opened (now old) ≡ Ok records → slice ≡ changes → blobs ≡ blobs_of slice
    → PutsFew blobs pages (bytes_at (content (page (now old)) count)) → (ids : List ℕ) → ChangesOnly ids records changes → AlterOnly ids (bytes_at (content (page (now old)) count)) blobs
planned_only old before count changes slice blobs pages records rests enough count_is opens slice_is blobs_are puts ids only =
    let was = passed (page (now old)) count count records (pages_held old count records (subst (λ n. IsAtRest old n) (sym count_is) rests) enough opens) in
    let are : blobs ≡ blobs_of changes = blobs_are ∙ ap blobs_of slice_is in
    subst (AlterOnly ids (bytes_at (content (page (now old)) count))) (sym are)
    (alters_only ids (content (page (now old)) count) records changes (unread_none (slots_in (page (now old))) (count - 2) was.read) was.are (subst (OverBytes (bytes_at (content (page (now old)) count))) are puts.read) only)

-- a batch that changes no record plans no page
pub nothing_planned : (old : History) (before count : ℕ) (changes slice : List Change) (blobs : List Blob) (pages : List PageWrite) (records : List Stored) → IsAtRest old before → 3 ≤ count → count ≡ before → opened (now old) ≡ Ok records → slice ≡ changes → blobs ≡ blobs_of slice
    → PutsFew blobs pages (bytes_at (content (page (now old)) count)) → ChangesNothing records changes → pages ≡ []
nothing_planned old before count changes slice blobs pages records rests enough count_is opens slice_is blobs_are puts nothing =
    puts.none.1 (planned_only old before count changes slice blobs pages records rests enough count_is opens slice_is blobs_are puts [] nothing)

-- and one that changes few of them few pages
pub few_planned : (old : History) (before count : ℕ) (changes slice : List Change) (blobs : List Blob) (pages : List PageWrite) (records : List Stored) → IsAtRest old before → 3 ≤ count → count ≡ before → opened (now old) ≡ Ok records → slice ≡ changes → blobs ≡ blobs_of slice
    → PutsFew blobs pages (bytes_at (content (page (now old)) count)) → (ids : List ℕ) → ChangesOnly ids records changes → length (entries pages) ≤ 2 * length ids + 2
few_planned old before count changes slice blobs pages records rests enough count_is opens slice_is blobs_are puts ids only =
    omega (arith, length-entries pages, puts.few ids (planned_only old before count changes slice blobs pages records rests enough count_is opens slice_is blobs_are puts ids only))
