-- The records of a store that was just made, as its pages hold them.
use Rattle.std.proofs.Common.{◌≡◌, ℕ, ◌<◌, ◌≤◌, true, List, [], ◌∷◌, length, Some, None, unwrap_or, Ok, refl, sym, ap, subst, ◌∙◌, lit<, arith}
use Rattle.wm_spec.specs.declared.record.Record.TheVariants as records
use Rattle.wm_spec.specs.Records.{ids_differ, AreChanges}
use Rattle.wm_page.specs.Entries.{is_named, found}
use Rattle.wm_page.specs.Fields.{number_at}
use Rattle.wm_codec.specs.Spelling.{spelling}
use Rattle.wm_codec.proofs.ExactRecords.{record_again}
use Rattle.wm_station.specs.History.{History, now}
use Rattle.wm_journal.specs.Disk.{page, are_below}
use Rattle.wm_journal.specs.Store.{count_after, over}
use Rattle.wm_heap.specs.declared.blob.Blob.{Blob}
use Rattle.wm_heap.specs.declared.slot.Slot.{Slot}
use Rattle.wm_heap.specs.Slots.{slots_of, page_of, used}
use Rattle.wm_heap.specs.Blobs.{slots_put}
use Rattle.wm_heap.specs.Content.{slots_in, fault_of}
use Rattle.wm_heap.specs.Plan.{root_of}
use Rattle.wm_store.specs.Fresh.{fresh_counters, live, first_version, fresh_changes, fresh_records}
use Rattle.wm_store.specs.Opened.{records_in, are_records, unread_in, pages_opened}
use Rattle.wm_store.specs.Spelled.{FitPages, HaveSpellings, blobs_of}
use Rattle.wm_store.proofs.Opening.{pages_found}

length-counters : (limit : ℕ) → length (spelling (records.Counters (fresh_counters limit))) ≡ 37
unfolding spelling
length-counters limit = refl

length-live : length (spelling (records.Space live)) ≡ 74
unfolding spelling
length-live = refl

length-version : length (spelling (records.Version first_version)) ≡ 21
unfolding spelling
length-version = refl

pub fresh_once : (limit : ℕ) → AreChanges (fresh_changes limit)
unfolding ids_differ
fresh_once limit = refl

pub fresh_fit : (limit : ℕ) → FitPages (fresh_changes limit)
fresh_fit limit =
    let a = length-counters limit in
    let b = length-live in
    let d = length-version in (
      ((tt, (tt, (tt, (tt, tt)))), omega arith),
      (
        ((tt, (lit< tt, (tt, (tt, (tt, (tt, (tt, (tt, (tt, (tt, (tt, (tt, (tt, lit< tt))))))))))))), omega arith),
        (((tt, (tt, tt)), omega arith), tt),
      ),
    )

abbrev pub fresh_slots : ℕ → List Slot
fresh_slots limit = slots_put (blobs_of (fresh_changes limit))

pub fresh_room : (limit : ℕ) → used (fresh_slots limit) ≤ 4096
fresh_room limit = omega (arith, length-counters limit, length-live, length-version)

pub fresh_read : (limit : ℕ) → HaveSpellings (fresh_changes limit) → (records_in (fresh_slots limit) ≡ fresh_records limit) × (are_records (fresh_slots limit) ≡ true)
fresh_read limit all =
    let a = record_again (records.Counters (fresh_counters limit)) all.0.0 in
    let b = record_again (records.Space live) all.1.0.0 in
    let d = record_again (records.Version first_version) all.1.1.0.0 in
    (rw (a, b, d) refl, rw (a, b, d) refl)

-- pages that hold them are opened as they
pub fresh_opens : (pages : ℕ → List ℕ) (limit : ℕ) → HaveSpellings (fresh_changes limit) → pages 2 ≡ page_of (fresh_slots limit) → slots_of (page_of (fresh_slots limit)) ≡ Some (fresh_slots limit) → fault_of pages 3 3 ≡ None → pages_opened pages 3 3 ≡ Ok (fresh_records limit)
fresh_opens pages limit all page_is again sound =
    let t = fresh_read limit all in
    let slots_are : slots_in pages 2 ≡ fresh_slots limit = ap (λ bytes. unwrap_or (slots_of bytes) []) page_is ∙ ap (λ o. unwrap_or o []) again in
    let read : unread_in (slots_in pages) 1 ≡ None = rw (slots_are, t.1) refl in
    pages_found pages 3 3 (fresh_records limit) sound read (sym t.0 ∙ ap records_in (sym slots_are))

-- ---- as the journal takes them

pub first_below : (es : List (ℕ × List ℕ)) (root second : List ℕ) → es ≡ (1, root) ∷ (2, second) ∷ [] → are_below 3 es ≡ true
first_below es root second is = ap (λ l. are_below 3 l) is

pub first_named : (es : List (ℕ × List ℕ)) (root second : List ℕ) → es ≡ (1, root) ∷ (2, second) ∷ [] → is_named 1 es ≡ true
first_named es root second is = ap (λ l. is_named 1 l) is

pub second_named : (es : List (ℕ × List ℕ)) (root second : List ℕ) → es ≡ (1, root) ∷ (2, second) ∷ [] → is_named 2 es ≡ true
second_named es root second is = ap (λ l. is_named 2 l) is

pub first_count : (es : List (ℕ × List ℕ)) (root second : List ℕ) → es ≡ (1, root) ∷ (2, second) ∷ [] → number_at root 0 ≡ 3 → count_after 0 es ≡ 3
first_count es root second is reads = ap (λ l. count_after 0 l) is ∙ reads

pub second_page : (es : List (ℕ × List ℕ)) (root second : List ℕ) → es ≡ (1, root) ∷ (2, second) ∷ [] → over es (λ _. []) 2 ≡ second
second_page es root second is = ap (λ (l : List (ℕ × List ℕ)). found 2 l []) is

-- a store that was just made is opened as its records
pub made_opens : (h : History) (journal : ℕ) (blobs : List Blob) (es : List (ℕ × List ℕ)) (limit : ℕ) → HaveSpellings (fresh_changes limit) → blobs ≡ blobs_of (fresh_changes limit) → es ≡ (1, root_of 3) ∷ (2, page_of (slots_put blobs)) ∷ [] → slots_of (page_of (slots_put blobs)) ≡ Some (slots_put blobs)
    → ((pages : ℕ → List ℕ) (whole : ℕ) → pages 2 ≡ page_of (slots_put blobs) → 3 ≤ whole → fault_of pages 3 whole ≡ None) → ((p : ℕ) → 1 ≤ p → p < 3 → page (now h) p ≡ over es (λ _. []) p) → journal ≡ 3 → pages_opened (page (now h)) journal journal ≡ Ok (fresh_records limit)
made_opens h journal blobs es limit all blobs_are es_are again sound pages journal_is =
    let second : page (now h) 2 ≡ page_of (slots_put blobs) = pages 2 (omega arith) (omega arith) ∙ second_page es (root_of 3) (page_of (slots_put blobs)) es_are in
    ap (λ n. pages_opened (page (now h)) n n) journal_is
    ∙ fresh_opens (page (now h)) limit all (second ∙ ap (λ b. page_of (slots_put b)) blobs_are) (subst (λ b. slots_of (page_of (slots_put b)) ≡ Some (slots_put b)) blobs_are again) (sound (page (now h)) 3 second (omega arith))
