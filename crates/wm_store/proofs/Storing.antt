-- A store at rest, before and after a commit.
use Rattle.std.proofs.Common.{◌≡◌, ℕ, ◌<◌, ◌≤◌, inl, inr, ⊎_elim, max, Bool, true, false, cond, eqb, List, [], ◌∷◌, is_some, unwrap_or, Ok, refl, sym, ap, subst, ◌∙◌, arith}
use Rattle.wm_spec.specs.declared.record.stored.Stored.{Stored}
use Rattle.wm_spec.specs.declared.record.batch.Change.{Change}
use Rattle.wm_spec.specs.Records.{AfterBatch}
use Rattle.wm_page.specs.Entries.{is_named, found}
use Rattle.wm_page.specs.Fields.{number_at}
use Rattle.wm_station.specs.History.{History, now}
use Rattle.wm_station.specs.Moments.{Holds, Ended}
use Rattle.wm_station.proofs.Steps.{weaker, begun, ended}
use Rattle.wm_journal.specs.Disk.{page, count_of, are_below}
use Rattle.wm_journal.specs.Store.{Stores, IsAtRest, OldOrNew, over, count_after}
use Rattle.wm_journal.proofs.Stored.{rests_stores, held_closed}
use Rattle.wm_heap.specs.declared.blob.Blob.{Blob}
use Rattle.wm_heap.specs.declared.heap.Heap.{Heap}
use Rattle.wm_heap.specs.Slots.{slots_of}
use Rattle.wm_heap.specs.Content.{bytes_at, slots_in}
use Rattle.wm_heap.specs.Places.{ids_of, page_count, Once, IsHeapOf}
use Rattle.wm_heap.specs.Plan.{IsPlan, IsChanged, laid}
use Rattle.wm_heap.specs.Room.{KnowsRoom}
use Rattle.wm_heap.proofs.Knowing.{knows_same}
use Rattle.wm_store.specs.Opened.{pages_opened, opened, Held}
use Rattle.wm_store.specs.Spelled.{HaveSpellings, blobs_of}
use Rattle.wm_store.specs.Stores.{IsStoreOf, KnowsRoomOf, OldOrAfter}
use Rattle.wm_store.specs.declared.store.Store.{Store}
use Rattle.wm_store.proofs.Opening.{opened-stores, pages_opened-same}
use Rattle.wm_store.proofs.Committing.{Changes, changed_pages, count_planned, below_planned}

-- ---- at rest

-- a file that stores these pages holds their records
pub stores_held : (content : ℕ → List ℕ) (limit : ℕ) (file : List ℕ) (records : List Stored) → Stores content limit file → number_at (content 1) 0 ≡ limit → 3 ≤ limit → pages_opened content limit limit ≡ Ok records → Held records file
stores_held content limit file records stores counted enough opens = record { made = stores.made; opens = opened-stores content limit file stores counted enough ∙ opens }

pub rests_hold : (h : History) (count : ℕ) (records : List Stored) → IsAtRest h count → 3 ≤ count → pages_opened (page (now h)) count count ≡ Ok records → Holds h (Held records)
rests_hold h count records rests enough opens = record {
  here = stores_held (page (now h)) count (now h) records (rests_stores (page (now h)) count (now h) rests.rests.here) rests.counted enough opens;
  left = λ c left. stores_held (page (now h)) count c records (rests_stores (page (now h)) count c (rests.rests.left c left)) rests.counted enough opens;
}

-- what the file holds is what its pages say
pub pages_held : (h : History) (count : ℕ) (records : List Stored) → IsAtRest h count → 3 ≤ count → opened (now h) ≡ Ok records → pages_opened (page (now h)) count count ≡ Ok records
pages_held h count records rests enough opens = sym (opened-stores (page (now h)) count (now h) (rests_stores (page (now h)) count (now h) rests.rests.here) rests.counted enough) ∙ opens

-- the page count that the file tells
pub count_held : (h : History) (count : ℕ) → IsAtRest h count → count_of (now h) ≡ count
count_held h count rests = ap (λ (bytes : List ℕ). number_at bytes 0) (held_closed (now h) 1 rests.rests.here.closed) ∙ rests.counted

-- ---- the same pages

pub heap-same : (heap : Heap) (a b : ℕ → List ℕ) (count : ℕ) → ((p : ℕ) → 2 ≤ p → p < count → b p ≡ a p) → IsHeapOf heap a count → IsHeapOf heap b count
heap-same heap a b count same is_heap = record {
  pages = is_heap.pages;
  slots = λ p from till. subst (λ bytes. is_some (slots_of bytes) ≡ true) (sym (same p from till)) (is_heap.slots p from till);
  placed = record {
    there = λ id p e. (let t = is_heap.placed.there id p e in (t.0, t.1, subst (λ bytes. is_some (bytes_at (unwrap_or (slots_of bytes) []) id) ≡ true) (sym (same p t.0 t.1)) t.2));
    only = λ id p from till here. is_heap.placed.only id p from till (subst (λ bytes. is_some (bytes_at (unwrap_or (slots_of bytes) []) id) ≡ true) (same p from till) here);
    once = λ p from till. subst (λ bytes. Once (unwrap_or (slots_of bytes) [])) (sym (same p from till)) (is_heap.placed.once p from till);
  };
  ids = λ p from till. is_heap.ids p from till ∙ ap (λ bytes. ids_of (unwrap_or (slots_of bytes) [])) (sym (same p from till));
}

-- ---- after a commit

-- page 1 after a batch says the page count after it
pub counted_after : (count : ℕ) (es : List (ℕ × List ℕ)) (bytes : List ℕ) → number_at bytes 0 ≡ count → number_at (found 1 es bytes) 0 ≡ count_after count es
counted_after count [] bytes counted = counted
counted_after count (e ∷ es) bytes counted = by_test (eqb 1 e.0) (counted_after count es bytes counted)
  where
    by_test : (t : Bool) → number_at (found 1 es bytes) 0 ≡ count_after count es → number_at (cond t e.1 (found 1 es bytes)) 0 ≡ cond t (number_at e.1 0) (count_after count es)
    by_test true rest = refl
    by_test false rest = rest

-- what a commit did: the heap planned these pages over the old ones
pub record Planned (old : History) (before count : ℕ) (heap : Heap) (changes : List Change) (es : List (ℕ × List ℕ)) : Type 0 where
  pub rests : IsAtRest old before
  pub enough : 3 ≤ before
  pub plan : IsPlan before count es
  pub count_is : count ≡ page_count heap
  pub spelled : HaveSpellings changes
  pub changed : IsChanged heap (blobs_of changes) es (page (now old)) before

pub planned_changes : (old : History) (before count : ℕ) (heap : Heap) (changes : List Change) (es : List (ℕ × List ℕ)) (records : List Stored) → Planned old before count heap changes es → opened (now old) ≡ Ok records
    → Changes records changes (laid es (page (now old))) count
planned_changes old before count heap changes es records planned opens =
    let up = planned.plan.no_fewer in
    let enough = planned.enough in
    let is = planned.count_is in
    subst (λ n. Changes records changes (laid es (page (now old))) n) (sym planned.count_is)
    (changed_pages heap changes es (page (now old)) before records planned.spelled planned.changed (omega arith) (pages_held old before records planned.rests planned.enough opens))

-- all new pages are there: the file holds the records after the batch
pub committed : (old new : History) (before count : ℕ) (heap : Heap) (changes : List Change) (es : List (ℕ × List ℕ)) (records : List Stored) → Planned old before count heap changes es → opened (now old) ≡ Ok records → IsAtRest new count
    → ((p : ℕ) → 1 ≤ p → p < count → page (now new) p ≡ over es (page (now old)) p) → (after : List Stored) × AfterBatch records changes after × Holds new (Held after)
committed old new before count heap changes es records planned opens rests pages =
    let up = planned.plan.no_fewer in
    let enough = planned.enough in
    let ch = planned_changes old before count heap changes es records planned opens in (
      ch.new,
      ch.are,
      rests_hold new count ch.new rests (omega arith) (pages_opened-same (page (now new)) (laid es (page (now old))) count count (λ p from till. pages p (omega arith) till) ∙ ch.opens),
    )

-- at each moment the file holds the old records or those after the batch
pub old_or_after : (old new : History) (before count : ℕ) (heap : Heap) (changes : List Change) (es : List (ℕ × List ℕ)) (records : List Stored) → Planned old before count heap changes es → opened (now old) ≡ Ok records
    → Ended old new (OldOrNew (page (now old)) before es) → Ended old new (OldOrAfter records changes)
old_or_after old new before count heap changes es records planned opens run =
    weaker old new (OldOrNew (page (now old)) before es) (OldOrAfter records changes) (λ c either. ⊎_elim (λ was. inl (kept c was)) (λ is. inr (done c is)) either) run
  where
    kept : (c : List ℕ) → Stores (page (now old)) before c → Held records c
    kept c stores = stores_held (page (now old)) before c records stores planned.rests.counted planned.enough (pages_held old before records planned.rests planned.enough opens)

    done : (c : List ℕ) → Stores (over es (page (now old))) (count_after before es) c → (after : List Stored) × AfterBatch records changes after × Held after c
    done c stores =
        let up = planned.plan.no_fewer in
        let enough = planned.enough in
        let ch = planned_changes old before count heap changes es records planned opens in
        let count_is = count_planned before count es planned.plan in
        let here : Stores (over es (page (now old))) count c = subst (λ n. Stores (over es (page (now old))) n c) count_is stores in
        (ch.new, ch.are, stores_held (laid es (page (now old))) count c ch.new here (counted_after before es (page (now old) 1) planned.rests.counted ∙ count_is) (omega arith) ch.opens)

-- nothing was done: the file holds the old records at each moment
pub old_kept : (old : History) (before : ℕ) (changes : List Change) (records : List Stored) → IsAtRest old before → 3 ≤ before → opened (now old) ≡ Ok records → Ended old old (OldOrAfter records changes)
old_kept old before changes records rests enough opens =
    ended old old (OldOrAfter records changes) (Held records)
    (begun old (OldOrAfter records changes) (Held records) (rests_hold old before records rests enough (pages_held old before records rests enough opens)) (λ c held. inl held)) (λ c held. inl held)

-- the heap of the new pages
pub heap_after : (old new : History) (before count : ℕ) (heap : Heap) (changes : List Change) (es : List (ℕ × List ℕ)) → Planned old before count heap changes es → ((p : ℕ) → 1 ≤ p → p < count → page (now new) p ≡ over es (page (now old)) p) → IsHeapOf heap (page (now new)) count
heap_after old new before count heap changes es planned pages =
    heap-same heap (laid es (page (now old))) (page (now new)) count (λ p from till. pages p (omega arith) till) (subst (λ n. IsHeapOf heap (laid es (page (now old))) n) (sym planned.count_is) planned.changed.is_heap)

-- ---- as the calls say it

pub as_planned : (old : History) (store_heap heap : Heap) (before count_result pages_result : ℕ) (changes slice : List Change) (blobs : List Blob) (es : List (ℕ × List ℕ)) → IsAtRest old before → 3 ≤ count_result → count_result ≡ before → pages_result ≡ page_count store_heap → pages_result ≡ count_result
    → IsPlan (page_count store_heap) (page_count heap) es → HaveSpellings slice → slice ≡ changes → blobs ≡ blobs_of slice → IsChanged heap blobs es (page (now old)) count_result → Planned old before (page_count heap) heap changes es
as_planned old store_heap heap before count_result pages_result changes slice blobs es rests enough count_is pages_is same plan all slice_is blobs_are changed = record {
  rests = rests;
  enough = subst (λ n. 3 ≤ n) count_is enough;
  plan = subst (λ n. IsPlan n (page_count heap) es) (sym pages_is ∙ same ∙ count_is) plan;
  count_is = refl;
  spelled = subst HaveSpellings slice_is all;
  changed = subst (λ n. IsChanged heap (blobs_of changes) es (page (now old)) n) count_is (subst (λ bs. IsChanged heap bs es (page (now old)) count_result) (blobs_are ∙ ap blobs_of slice_is) changed);
}

pub before_plan : (before count_result pages_result was count : ℕ) (es : List (ℕ × List ℕ)) → count_result ≡ before → pages_result ≡ was → pages_result ≡ count_result → IsPlan was count es → IsPlan before count es
before_plan before count_result pages_result was count es count_is pages_is same plan = subst (λ n. IsPlan n count es) (sym pages_is ∙ same ∙ count_is) plan

pub takes_pages : (before count : ℕ) (es : List (ℕ × List ℕ)) → IsPlan before count es → are_below (max before (count_after before es)) es ≡ true
takes_pages before count es plan =
    let is = count_planned before count es plan in
    below_planned (max before (count_after before es)) es (λ p named. let t = plan.within p named in let high = t.1 in (t.0, omega arith))

pub takes_root : (before count : ℕ) (es : List (ℕ × List ℕ)) → 3 ≤ before → IsPlan before count es → 3 ≤ count_after before es
takes_root before count es enough plan = let is = count_planned before count es plan in let up = plan.no_fewer in omega arith

pub takes_grown : (before count : ℕ) (es : List (ℕ × List ℕ)) → IsPlan before count es → (p : ℕ) → before ≤ p → p < count_after before es → is_named p es ≡ true
takes_grown before count es plan p low high = let is = count_planned before count es plan in plan.grown p low (omega arith)

pub store_after : (old new : History) (before : ℕ) (store : Store) (changes : List Change) (es : List (ℕ × List ℕ)) (records : List Stored) → Planned old before (page_count store.heap) store.heap changes es → opened (now old) ≡ Ok records → store.journal ≡ count_after before es → IsAtRest new store.journal
    → ((p : ℕ) → 1 ≤ p → p < store.journal → page (now new) p ≡ over es (page (now old)) p) → IsStoreOf store new
store_after old new before store changes es records planned opens journal_is rests pages =
    let is : store.journal ≡ page_count store.heap = journal_is ∙ count_planned before (page_count store.heap) es planned.plan in
    let here : IsAtRest new (page_count store.heap) = subst (λ n. IsAtRest new n) is rests in
    let same : (p : ℕ) → 1 ≤ p → p < page_count store.heap → page (now new) p ≡ over es (page (now old)) p = λ p from till. pages p from (omega arith) in
    let done = committed old new before (page_count store.heap) store.heap changes es records planned opens here same in
    record {
      rests = rests;
      heap = subst (λ n. IsHeapOf store.heap (page (now new)) n) (sym is) (heap_after old new before (page_count store.heap) store.heap changes es planned same);
      opens = (done.0, done.2.here.opens);
    }

-- the store of the new pages knows their room
pub room_after : (old new : History) (before : ℕ) (store : Store) (es : List (ℕ × List ℕ)) → IsPlan before (page_count store.heap) es → KnowsRoom store.heap.room (slots_in (laid es (page (now old)))) (page_count store.heap) → store.journal ≡ count_after before es
    → ((p : ℕ) → 1 ≤ p → p < store.journal → page (now new) p ≡ over es (page (now old)) p) → KnowsRoomOf store new
room_after old new before store es plan knows journal_is pages =
    let is : store.journal ≡ page_count store.heap = journal_is ∙ count_planned before (page_count store.heap) es plan in
    subst (KnowsRoom store.heap.room (slots_in (page (now new)))) (sym is)
    (knows_same store.heap.room (slots_in (laid es (page (now old)))) (slots_in (page (now new))) (page_count store.heap) (λ p from till. ap (λ bytes. unwrap_or (slots_of bytes) []) (pages p (omega arith) (omega arith))) knows)

pub held_after : (old new : History) (before journal : ℕ) (heap : Heap) (changes : List Change) (es : List (ℕ × List ℕ)) (records : List Stored) → Planned old before (page_count heap) heap changes es → opened (now old) ≡ Ok records → journal ≡ count_after before es → IsAtRest new journal
    → ((p : ℕ) → 1 ≤ p → p < journal → page (now new) p ≡ over es (page (now old)) p) → (after : List Stored) × AfterBatch records changes after × Holds new (Held after)
held_after old new before journal heap changes es records planned opens journal_is rests pages =
    let is : journal ≡ page_count heap = journal_is ∙ count_planned before (page_count heap) es planned.plan in
    committed old new before (page_count heap) heap changes es records planned opens (subst (λ n. IsAtRest new n) is rests) (λ p from till. pages p from (omega arith))

-- no page was planned: all is as before
nothing_grew : (before count : ℕ) (es : List (ℕ × List ℕ)) → es ≡ [] → IsPlan before count es → before ≡ count_after before es
nothing_grew before count es none plan = sym (ap (λ l. count_after before l) none)

pub store_same : (old new : History) (store : Store) (changes : List Change) (es : List (ℕ × List ℕ)) (records : List Stored) → new ≡ old → es ≡ [] → Planned old store.journal (page_count store.heap) store.heap changes es → opened (now old) ≡ Ok records → IsStoreOf store new
store_same old new store changes es records same none planned opens =
    subst (λ h. IsStoreOf store h) (sym same)
    (store_after old old store.journal store changes es records planned opens (nothing_grew store.journal (page_count store.heap) es none planned.plan) planned.rests (λ p from till. sym (ap (λ l. over l (page (now old)) p) none)))

pub room_same : (old new : History) (store : Store) (es : List (ℕ × List ℕ)) → new ≡ old → es ≡ [] → IsPlan store.journal (page_count store.heap) es → KnowsRoom store.heap.room (slots_in (laid es (page (now old)))) (page_count store.heap) → KnowsRoomOf store new
room_same old new store es same none plan knows =
    subst (KnowsRoomOf store) (sym same) (room_after old old store.journal store es plan knows (nothing_grew store.journal (page_count store.heap) es none plan) (λ p from till. sym (ap (λ l. over l (page (now old)) p) none)))

pub held_same : (old new : History) (before : ℕ) (heap : Heap) (changes : List Change) (es : List (ℕ × List ℕ)) (records : List Stored) → new ≡ old → es ≡ [] → Planned old before (page_count heap) heap changes es → opened (now old) ≡ Ok records → (after : List Stored) × AfterBatch records changes after × Holds new (Held after)
held_same old new before heap changes es records same none planned opens =
    subst (λ h. (after : List Stored) × AfterBatch records changes after × Holds h (Held after)) (sym same)
    (held_after old old before before heap changes es records planned opens (nothing_grew before (page_count heap) es none planned.plan) planned.rests (λ p from till. sym (ap (λ l. over l (page (now old)) p) none)))

pub kept_same : (old new : History) (before : ℕ) (changes : List Change) (records : List Stored) → new ≡ old → IsAtRest old before → 3 ≤ before → opened (now old) ≡ Ok records → Ended old new (OldOrAfter records changes)
kept_same old new before changes records same rests enough opens = subst (λ h. Ended old h (OldOrAfter records changes)) (sym same) (old_kept old before changes records rests enough opens)

-- after the pages were planned nothing was done yet
pub run_from : (old middle new : History) (T : List ℕ → Type 0) → middle ≡ old → Ended middle new T → Ended old new T
run_from old middle new T same run = subst (λ h. Ended h new T) same run
