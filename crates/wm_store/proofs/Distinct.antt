-- The records that a file holds have different ids.
use Rattle.std.proofs.Common.{◌≡◌, ℕ, zero, suc, ◌+◌, ◌-◌, ◌/◌, Bool, true, false, cond, ◌||◌, eqb, ltb, List, [], ◌∷◌, ◌++◌, length, map, Option, Some, None, is_some, unwrap_or, Ok, refl, sym, ap, subst, ◌∙◌, arith}
use Rattle.std.specs.List.{list_any}
use Rattle.std.specs.Option.{option_map}
use Rattle.std.proofs.lemmas.Bool.{eqb-true, or_parts}
use Rattle.wm_base.proofs.Plain.{either_parts, option_or_parts, unless_parts}
use Rattle.wm_faults.specs.declared.fault.Damage.TheVariants as damages
use Rattle.wm_spec.specs.declared.record.Record.{Record}
use Rattle.wm_spec.specs.declared.record.stored.Stored.{Stored}
use Rattle.wm_spec.specs.Records.{ids_differ, AreRecords}
use Rattle.wm_codec.specs.Reading.{record_of}
use Rattle.wm_journal.specs.Disk.{held, count_of}
use Rattle.wm_heap.specs.declared.slot.Slot.{Slot}
use Rattle.wm_heap.specs.Slots.{slots_of}
use Rattle.wm_heap.specs.Content.{bytes_at, is_twice, is_in, slots_in, slots_upto, content, damage_in, damage_on, fault_in}
use Rattle.wm_heap.specs.Places.{ids_of}
use Rattle.wm_store.specs.Opened.{stored_at, records_in, are_records, pages_opened, Held}
use Rattle.wm_store.proofs.Opening.{passed, opened_parts}
use Rattle.wm_store.proofs.Reading.{unread_none}

-- ids of which none was seen, and none stands twice
once : (seen : ℕ → Bool) (slots : List Slot) → is_twice seen slots ≡ false → (ids_differ (ids_of slots) ≡ true) × ((id : ℕ) → seen id ≡ true → list_any (λ other. eqb other id) (ids_of slots) ≡ false)
unfolding ids_differ
once seen [] e = (refl, λ id was. refl)
once seen (s ∷ slots) e =
    let parts = either_parts (seen s.id) (is_twice (λ id. eqb s.id id || seen id) slots) e in
    let rest = once (λ id. eqb s.id id || seen id) slots parts.1 in
    let self : eqb s.id s.id ≡ true = grind arith in
    let alone : list_any (λ other. eqb other s.id) (ids_of slots) ≡ false = rest.1 s.id (rw self refl) in
    (rw alone rest.0, λ id was. by_test id was (eqb s.id id) refl parts.0 (rest.1 id))
  where
    by_test : (id : ℕ) → seen id ≡ true → (t : Bool) → eqb s.id id ≡ t → seen s.id ≡ false → ((eqb s.id id || seen id) ≡ true → list_any (λ other. eqb other id) (ids_of slots) ≡ false) → (eqb s.id id || list_any (λ other. eqb other id) (ids_of slots)) ≡ false
    by_test id was true f none rest = absurd (let same : s.id ≡ id = eqb-true s.id id f in let there : seen s.id ≡ true = ap seen same ∙ was in cc)
    by_test id was false f none rest = rw f (rest (rw f was))

-- two lists of slots with no id in both
any_both : (id : ℕ) (xs ys : List Slot) → list_any (λ other. eqb other id) (ids_of xs) ≡ false → list_any (λ other. eqb other id) (ids_of ys) ≡ false → list_any (λ other. eqb other id) (ids_of (xs ++ ys)) ≡ false
any_both id [] ys a b = b
any_both id (s ∷ xs) ys a b =
    let parts = or_parts (eqb s.id id) (list_any (λ other. eqb other id) (ids_of xs)) a in
    rw parts.0 (any_both id xs ys parts.1 b)

differ_both : (xs ys : List Slot) → ids_differ (ids_of xs) ≡ true → ids_differ (ids_of ys) ≡ true → ((id : ℕ) → is_some (bytes_at xs id) ≡ true → list_any (λ other. eqb other id) (ids_of ys) ≡ false) → ids_differ (ids_of (xs ++ ys)) ≡ true
unfolding ids_differ
differ_both [] ys a b apart = b
differ_both (s ∷ xs) ys a b apart =
    let parts = unless_parts (list_any (λ other. eqb other s.id) (ids_of xs)) (ids_differ (ids_of xs)) a in
    let self : eqb s.id s.id ≡ true = grind arith in
    let alone : list_any (λ other. eqb other s.id) (ids_of (xs ++ ys)) ≡ false = any_both s.id xs ys parts.0 (apart s.id (rw self refl)) in
    rw alone (differ_both xs ys parts.1 b (λ id there. apart id (by_test id (eqb s.id id) there)))
  where
    by_test : (id : ℕ) (t : Bool) → is_some (bytes_at xs id) ≡ true → is_some (cond t (Some s.bytes) (bytes_at xs id)) ≡ true
    by_test id true there = refl
    by_test id false there = there

-- a page that passed has no id that was seen before
page_once : (seen : ℕ → Bool) (p : ℕ) (whole : Bool) (pages : ℕ → List ℕ) → damage_on seen p whole (slots_of (pages p)) ≡ None → is_twice seen (slots_in pages p) ≡ false
page_once seen p whole pages e = by_slots whole (slots_of (pages p)) refl e
  where
    by_twice : (slots : List Slot) (b : Bool) → is_twice seen slots ≡ b → damage_on seen p true (Some slots) ≡ None → b ≡ false
    by_twice slots true f e = absurd (let found : damage_in seen true (Some slots) ≡ Some damages.Twice = rw f refl in let t : Some (p, damages.Twice) ≡ None = ap (λ o. option_map (λ kind. (p, kind)) o) (sym found) ∙ e in cc)
    by_twice slots false f e = refl

    by_slots : (whole : Bool) (o : Option (List Slot)) → slots_of (pages p) ≡ o → damage_on seen p whole o ≡ None → is_twice seen (unwrap_or o []) ≡ false
    by_slots false o f e = absurd cc
    by_slots true None f e = absurd cc
    by_slots true (Some slots) f e = by_twice slots (is_twice seen slots) refl e

pages_once : (pages : ℕ → List ℕ) (whole n : ℕ) → fault_in pages whole n ≡ None → ids_differ (ids_of (slots_upto (slots_in pages) n)) ≡ true
unfolding ids_differ
pages_once pages whole zero e = refl
pages_once pages whole (suc n) e =
    let parts = option_or_parts (fault_in pages whole n) (damage_on (is_in (slots_in pages) n) (n + 2) (ltb (n + 2) whole) (slots_of (pages (n + 2)))) e in
    let here = once (is_in (slots_in pages) n) (slots_in pages (n + 2)) (page_once (is_in (slots_in pages) n) (n + 2) (ltb (n + 2) whole) pages parts.1) in
    differ_both (slots_upto (slots_in pages) n) (slots_in pages (n + 2)) (pages_once pages whole n parts.0) here.0 here.1

-- records stand under the ids of their slots
ids_read : (slots : List Slot) → are_records slots ≡ true → map (λ (s : Stored). s.id) (records_in slots) ≡ ids_of slots
ids_read [] all = refl
ids_read (s ∷ slots) all = by_record (record_of s.bytes) all (λ rest. ids_read slots rest)
  where
    by_record : (o : Option Record) → cond (is_some o) (are_records slots) false ≡ true → (are_records slots ≡ true → map (λ (s : Stored). s.id) (records_in slots) ≡ ids_of slots) → map (λ (s : Stored). s.id) (stored_at s.id o ++ records_in slots) ≡ s.id ∷ ids_of slots
    by_record None a rest = absurd cc
    by_record (Some r) a rest = ap (λ l. s.id ∷ l) (rest a)

pub pages_differ : (pages : ℕ → List ℕ) (count whole : ℕ) (records : List Stored) → pages_opened pages count whole ≡ Ok records → AreRecords records
pages_differ pages count whole records opens =
    let was = passed pages count whole records opens in
    let ids = ids_read (content pages count) (unread_none (slots_in pages) (count - 2) was.read) in
    subst (λ l. AreRecords l) was.are (ap ids_differ ids ∙ pages_once pages whole (count - 2) was.sound)

-- no id stands twice among the records that a file holds
pub held_differ : (records : List Stored) (file : List ℕ) → Held records file → AreRecords records
held_differ records file is = pages_differ (held file) (count_of file) (length file / 4096) records (opened_parts file records is.opens).1
