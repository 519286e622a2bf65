-- The records of slots, page by page.
use Rattle.std.proofs.Common.{◌≡◌, ℕ, zero, suc, ◌+◌, ◌-◌, ◌<◌, ◌≤◌, ◌⊎◌, inl, inr, Bool, true, false, cond, eqb, List, [], ◌∷◌, ◌++◌, Option, Some, None, is_some, Ok, Err, refl, sym, ap, subst, ◌∙◌, append_assoc, arith}
use Rattle.std.specs.Option.{option_and_then, option_map, option_or}
use Rattle.std.proofs.lemmas.Bool.{cases_lt}
use Rattle.wm_base.proofs.Plain.{option_or_parts}
use Rattle.wm_faults.specs.declared.fault.Damage.{Damage}
use Rattle.wm_faults.specs.declared.fault.Damage.TheVariants as damages
use Rattle.wm_faults.specs.declared.fault.OpenFault.{OpenFault}
use Rattle.wm_faults.specs.declared.fault.OpenFault.TheVariants as faults
use Rattle.wm_spec.specs.declared.record.Record.{Record}
use Rattle.wm_spec.specs.declared.record.stored.Stored.{Stored}
use Rattle.wm_spec.specs.Records.{record_at}
use Rattle.wm_codec.specs.Reading.{record_of}
use Rattle.wm_heap.specs.declared.slot.Slot.{Slot}
use Rattle.wm_heap.specs.Asking.{Finds}
use Rattle.wm_heap.specs.Content.{bytes_at, slots_upto, slots_in, fault_of}
use Rattle.wm_store.specs.Answers.{FindsIn}
use Rattle.wm_store.specs.Opened.{stored_at, records_in, are_records, unread_in, pages_opened}
use Rattle.wm_store.proofs.Opening.{pages_fault, pages_unread, pages_found}

pub records_in-append : (xs ys : List Slot) → records_in (xs ++ ys) ≡ records_in xs ++ records_in ys
records_in-append [] ys = refl
records_in-append (s ∷ xs) ys = ap (λ l. stored_at s.id (record_of s.bytes) ++ l) (records_in-append xs ys) ∙ sym (append_assoc (stored_at s.id (record_of s.bytes)) (records_in xs) (records_in ys))

pub are_records-append : (xs ys : List Slot) → are_records xs ≡ true → are_records ys ≡ true → are_records (xs ++ ys) ≡ true
are_records-append [] ys a b = b
are_records-append (s ∷ xs) ys a b = by_test (is_some (record_of s.bytes)) a (λ rest. are_records-append xs ys rest b)
  where
    by_test : (t : Bool) → cond t (are_records xs) false ≡ true → (are_records xs ≡ true → are_records (xs ++ ys) ≡ true) → cond t (are_records (xs ++ ys)) false ≡ true
    by_test true a rest = rest a
    by_test false a rest = absurd cc

-- what stands under an id is the record that its bytes spell
pub record_at-records_in : (slots : List Slot) (id : ℕ) → are_records slots ≡ true → record_at (records_in slots) id ≡ option_and_then record_of (bytes_at slots id)
unfolding record_at
record_at-records_in [] id all = refl
record_at-records_in (s ∷ slots) id all = by_record (record_of s.bytes) refl (eqb s.id id) all (λ rest. record_at-records_in slots id rest)
  where
    by_record : (o : Option Record) → record_of s.bytes ≡ o → (b : Bool) → cond (is_some o) (are_records slots) false ≡ true
        → (are_records slots ≡ true → record_at (records_in slots) id ≡ option_and_then record_of (bytes_at slots id))
        → record_at (stored_at s.id o ++ records_in slots) id ≡ option_and_then record_of (cond (eqb s.id id) (Some s.bytes) (bytes_at slots id))
    by_record None e b a rest = absurd cc
    by_record (Some r) e b a rest = by_test (eqb s.id id) (rest a)
      where
        by_test : (t : Bool) → record_at (records_in slots) id ≡ option_and_then record_of (bytes_at slots id) → cond t (Some r) (record_at (records_in slots) id) ≡ option_and_then record_of (cond t (Some s.bytes) (bytes_at slots id))
        by_test true h = sym e
        by_test false h = h

-- the bytes under each id are those of a record
pub bytes_read : (slots : List Slot) (id : ℕ) (bytes : List ℕ) → are_records slots ≡ true → bytes_at slots id ≡ Some bytes → is_some (record_of bytes) ≡ true
bytes_read [] id bytes are e = absurd cc
bytes_read (s ∷ slots) id bytes are e = by_test (is_some (record_of s.bytes)) refl are (eqb s.id id) e (λ rest found. bytes_read slots id bytes rest found)
  where
    by_test : (b : Bool) → is_some (record_of s.bytes) ≡ b → cond b (are_records slots) false ≡ true → (t : Bool) → cond t (Some s.bytes) (bytes_at slots id) ≡ Some bytes
        → (are_records slots ≡ true → bytes_at slots id ≡ Some bytes → is_some (record_of bytes) ≡ true) → is_some (record_of bytes) ≡ true
    by_test false f are t e rest = absurd cc
    by_test true f are true e rest = let same : s.bytes ≡ bytes = cc in subst (λ x. is_some (record_of x) ≡ true) same f
    by_test true f are false e rest = rest are e

-- ---- pages

cond_none : (b : Bool) (f : ℕ × Damage) → cond b None (Some f) ≡ None → b ≡ true
cond_none true f e = refl
cond_none false f e = absurd cc

pub unread_none : (slots : ℕ → List Slot) (n : ℕ) → unread_in slots n ≡ None → are_records (slots_upto slots n) ≡ true
unread_none slots zero e = refl
unread_none slots (suc n) e =
    let t = option_or_parts (unread_in slots n) (cond (are_records (slots (n + 2))) None (Some (n + 2, damages.Record))) e in
    are_records-append (slots_upto slots n) (slots (n + 2)) (unread_none slots n t.0) (cond_none (are_records (slots (n + 2))) (n + 2, damages.Record) t.1)

pub all_read : (slots : ℕ → List Slot) (n : ℕ) → ((p : ℕ) → 2 ≤ p → p < n + 2 → are_records (slots p) ≡ true) → unread_in slots n ≡ None
all_read slots zero are = refl
all_read slots (suc n) are =
    let here : are_records (slots (n + 2)) ≡ true = are (n + 2) (omega arith) (omega arith) in
    let before : unread_in slots n ≡ None = all_read slots n (λ p from till. are p from (omega arith)) in
    rw (before, here) refl

unread-goes_on : (slots : ℕ → List Slot) (n m : ℕ) (f : ℕ × Damage) → n ≤ m → unread_in slots n ≡ Some f → unread_in slots m ≡ Some f
unread-goes_on slots n zero f le e = let same : n ≡ 0 = omega arith in subst (λ k. unread_in slots k ≡ Some f) same e
unread-goes_on slots n (suc m) f le e = by_case (cases_lt m n) (λ less. unread-goes_on slots n m f less e)
  where
    by_case : (m < n) ⊎ (n ≤ m) → (n ≤ m → unread_in slots m ≡ Some f) → unread_in slots (suc m) ≡ Some f
    by_case (inl more) rest = let same : n ≡ suc m = omega arith in subst (λ k. unread_in slots k ≡ Some f) same e
    by_case (inr less) rest = rw (rest less) refl

-- what was read of the pages before this one: the records, as long as each slot has one
pub record Read (pages : ℕ → List ℕ) (page : ℕ) (records : List Stored) (unread : Option ℕ) : Type 0 where
  pub found : unread_in (slots_in pages) (page - 2) ≡ option_map (λ p. (p, damages.Record)) unread
  pub are : unread ≡ None → records ≡ records_in (slots_upto (slots_in pages) (page - 2))

pub read_none : (pages : ℕ → List ℕ) (records : List Stored) (unread : Option ℕ) → records ≡ [] → unread ≡ None → Read pages 2 records unread
read_none pages records unread empty none = record { found = ap (option_map (λ p. (p, damages.Record))) (sym none); are = λ e. empty }

pub read_more : (pages : ℕ → List ℕ) (page : ℕ) (old new : List Stored) (was now : Option ℕ) → 2 ≤ page → Read pages page old was
    → now ≡ option_or was (cond (are_records (slots_in pages page)) None (Some page)) → (now ≡ None → new ≡ old ++ records_in (slots_in pages page)) → Read pages (page + 1) new now
read_more pages page old new was now from read told more =
    let n = page - 2 in
    let next : page + 1 - 2 ≡ suc n = omega arith in
    let is : n + 2 ≡ page = omega arith in
    record {
      found = rw (next, read.found, is, told) (by_test was (are_records (slots_in pages page)));
      are = λ none.
          more none
          ∙ ap (λ l. l ++ records_in (slots_in pages page)) (read.are (option_or_parts was (cond (are_records (slots_in pages page)) None (Some page)) (sym told ∙ none)).0)
          ∙ sym (records_in-append (slots_upto (slots_in pages) n) (slots_in pages page))
          ∙ ap (λ k. records_in (slots_upto (slots_in pages) n ++ slots_in pages k)) (sym is) ∙ ap (λ k. records_in (slots_upto (slots_in pages) k)) (sym next);
    }
  where
    by_test : (o : Option ℕ) (b : Bool) → option_or {T = ℕ × Damage} (option_map (λ p. (p, damages.Record)) o) (cond b None (Some (page, damages.Record))) ≡ option_map (λ p. (p, damages.Record)) (option_or o (cond b None (Some page)))
    by_test None true = refl
    by_test None false = refl
    by_test (Some p) b = refl

-- ---- what they say when they are opened

-- damage of a page
pub pages_damaged : (pages : ℕ → List ℕ) (count whole : ℕ) (e : OpenFault) → Finds e (fault_of pages count whole) → FindsIn e (pages_opened pages count whole)
pages_damaged pages count whole faults.Disk finds = tt
pages_damaged pages count whole faults.NotStore finds = absurd finds
pages_damaged pages count whole faults.Memory finds = tt
pages_damaged pages count whole (faults.Damaged p kind) finds = pages_fault pages count whole (p, kind) finds

-- a slot without a record, where all pages were read and none is damaged
pub pages_without : (pages : ℕ → List ℕ) (page count whole : ℕ) (records : List Stored) (unread : Option ℕ) (e : OpenFault) → page ≡ count → fault_of pages page whole ≡ None → Read pages page records unread
    → Finds e (option_map (λ p. (p, damages.Record)) unread) → FindsIn e (pages_opened pages count whole)
pages_without pages page count whole records unread faults.Disk all sound read finds = tt
pages_without pages page count whole records unread faults.NotStore all sound read finds = absurd finds
pages_without pages page count whole records unread faults.Memory all sound read finds = tt
pages_without pages page count whole records unread (faults.Damaged p kind) all sound read finds =
    subst (λ k. pages_opened pages k whole ≡ Err (p, kind)) all (pages_unread pages page whole (p, kind) sound (read.found ∙ finds))

-- the records
pub pages_read : (pages : ℕ → List ℕ) (page count whole : ℕ) (records : List Stored) (unread : Option ℕ) → page ≡ count → fault_of pages page whole ≡ None → Read pages page records unread → unread ≡ None → pages_opened pages count whole ≡ Ok records
pages_read pages page count whole records unread all sound read none =
    subst (λ k. pages_opened pages k whole ≡ Ok records) all (pages_found pages page whole records sound (read.found ∙ ap (option_map (λ p. (p, damages.Record))) none) (read.are none))
