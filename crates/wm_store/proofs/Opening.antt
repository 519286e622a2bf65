-- What a file says when it is opened, by its pages.
use Rattle.std.proofs.Common.{◌≡◌, ℕ, zero, suc, ◌+◌, ◌-◌, ◌/◌, ◌<◌, ◌≤◌, ◌⊎◌, inl, inr, Bool, true, false, cond, not, ◌&&◌, eqb, ltb, List, [], ◌++◌, length, Option, Some, None, is_some, unwrap_or, Result, Ok, Err, refl, sym, ap, ◌∙◌, arith}
use Rattle.std.specs.Option.{option_map, option_or}
use Rattle.std.proofs.lemmas.Bool.{cases_lt, lt-ltb, le-ltb, ltb-false, ltb-true}
use Rattle.wm_base.proofs.Plain.{option_or_parts}
use Rattle.wm_faults.specs.declared.fault.Damage.{Damage}
use Rattle.wm_faults.specs.declared.fault.Damage.TheVariants as damages
use Rattle.wm_spec.specs.declared.record.stored.Stored.{Stored}
use Rattle.wm_page.specs.Fields.{number_at}
use Rattle.wm_journal.specs.Disk.{page, is_made, has_format, is_open, is_in_order, held, count_of, damage_of}
use Rattle.wm_journal.specs.Store.{Stores, Keeps}
use Rattle.wm_journal.proofs.Stored.{held_closed}
use Rattle.wm_heap.specs.declared.slot.Slot.{Slot}
use Rattle.wm_heap.specs.Slots.{slots_of}
use Rattle.wm_heap.specs.Content.{bytes_at, slots_upto, slots_in, content, is_in, damage_in, damage_on, fault_in, fault_of}
use Rattle.wm_store.specs.Opened.{records_in, are_records, unread_in, unless, pages_opened, opened}

-- ---- the same pages

slots-same : (a b : ℕ → List ℕ) (n limit : ℕ) → ((p : ℕ) → 2 ≤ p → p < limit → a p ≡ b p) → n + 2 ≤ limit → slots_upto (slots_in a) n ≡ slots_upto (slots_in b) n
slots-same a b zero limit same fits = refl
slots-same a b (suc n) limit same fits =
    let before = slots-same a b n limit same (omega arith) in
    let here : slots_in a (n + 2) ≡ slots_in b (n + 2) = ap (λ bytes. unwrap_or (slots_of bytes) []) (same (n + 2) (omega arith) (omega arith)) in
    ap (λ l. l ++ slots_in a (n + 2)) before ∙ ap (λ l. slots_upto (slots_in b) n ++ l) here

unread-same : (a b : ℕ → List ℕ) (n limit : ℕ) → ((p : ℕ) → 2 ≤ p → p < limit → a p ≡ b p) → n + 2 ≤ limit → unread_in (slots_in a) n ≡ unread_in (slots_in b) n
unread-same a b zero limit same fits = refl
unread-same a b (suc n) limit same fits =
    let before = unread-same a b n limit same (omega arith) in
    let here : slots_in a (n + 2) ≡ slots_in b (n + 2) = ap (λ bytes. unwrap_or (slots_of bytes) []) (same (n + 2) (omega arith) (omega arith)) in
    rw (before, here) refl

fault-same : (a b : ℕ → List ℕ) (whole n : ℕ) → ((p : ℕ) → 2 ≤ p → p < whole → a p ≡ b p) → fault_in a whole n ≡ fault_in b whole n
fault-same a b whole zero same = refl
fault-same a b whole (suc n) same = by_case (cases_lt (n + 2) whole) (fault-same a b whole n same)
  where
    by_case : (n + 2 < whole) ⊎ (whole ≤ n + 2) → fault_in a whole n ≡ fault_in b whole n → fault_in a whole (suc n) ≡ fault_in b whole (suc n)
    by_case (inl less) before =
        let earlier : slots_upto (slots_in a) n ≡ slots_upto (slots_in b) n = slots-same a b n whole same (omega arith) in
        let here : a (n + 2) ≡ b (n + 2) = same (n + 2) (omega arith) less in
        let step = λ (f : Option (ℕ × Damage)) (l : List Slot) (bytes : List ℕ). option_or f (damage_on (λ id. is_some (bytes_at l id)) (n + 2) (ltb (n + 2) whole) (slots_of bytes)) in
        ap (λ f. step f (slots_upto (slots_in a) n) (a (n + 2))) before ∙ ap (λ l. step (fault_in b whole n) l (a (n + 2))) earlier ∙ ap (λ bytes. step (fault_in b whole n) (slots_upto (slots_in b) n) bytes) here
    by_case (inr more) before = let t : ltb (n + 2) whole ≡ false = le-ltb (n + 2) whole more in rw (before, t) refl

fault-whole : (a : ℕ → List ℕ) (x y n : ℕ) → n + 2 ≤ x → n + 2 ≤ y → fault_in a x n ≡ fault_in a y n
fault-whole a x y zero fits enough = refl
fault-whole a x y (suc n) fits enough =
    let before = fault-whole a x y n (omega arith) (omega arith) in
    let t : ltb (n + 2) x ≡ true = lt-ltb (n + 2) x (omega arith) in
    let u : ltb (n + 2) y ≡ true = lt-ltb (n + 2) y (omega arith) in
    rw (before, t, u) refl

-- pages that passed are whole in the file
fault-below : (a : ℕ → List ℕ) (whole n : ℕ) → fault_in a whole n ≡ None → (p : ℕ) → 2 ≤ p → p < n + 2 → p < whole
fault-below a whole zero e p from till = absurd (omega arith)
fault-below a whole (suc n) e p from till =
    let t = option_or_parts (fault_in a whole n) (damage_on (is_in (slots_in a) n) (n + 2) (ltb (n + 2) whole) (slots_of (a (n + 2)))) e in
    by_case (cases_lt p (n + 2)) (λ less. fault-below a whole n t.0 p from less) (ltb (n + 2) whole) refl t.1
  where
    by_case : (p < n + 2) ⊎ (n + 2 ≤ p) → (p < n + 2 → p < whole) → (b : Bool) → ltb (n + 2) whole ≡ b → damage_on (is_in (slots_in a) n) (n + 2) b (slots_of (a (n + 2))) ≡ None → p < whole
    by_case (inl less) rest b f none = rest less
    by_case (inr more) rest true f none = let high = ltb-true (n + 2) whole f in omega arith
    by_case (inr more) rest false f none = absurd cc

-- what pages say when they are opened is said by those that lie whole in the file
pub pages_opened-same : (a b : ℕ → List ℕ) (count whole : ℕ) → ((p : ℕ) → 2 ≤ p → p < whole → a p ≡ b p) → pages_opened a count whole ≡ pages_opened b count whole
unfolding pages_opened
pages_opened-same a b count whole same = rw (fault-same a b whole (count - 2) same) (by_fault (fault_in b whole (count - 2)) refl)
  where
    by_fault : (f : Option (ℕ × Damage)) → fault_in b whole (count - 2) ≡ f
        → unless f (unless (unread_in (slots_in a) (count - 2)) (Ok (records_in (content a count)))) ≡ unless f (unless (unread_in (slots_in b) (count - 2)) (Ok (records_in (content b count))))
    by_fault (Some f) e = refl
    by_fault None e =
        let below : (p : ℕ) → 2 ≤ p → p < count - 2 + 2 → a p ≡ b p = λ p from till. same p from (fault-below b whole (count - 2) e p from till) in
        rw (unread-same a b (count - 2) (count - 2 + 2) below (omega arith), slots-same a b (count - 2) (count - 2 + 2) below (omega arith)) refl

pub pages_opened-whole : (a : ℕ → List ℕ) (count x y : ℕ) → 2 ≤ count → count ≤ x → count ≤ y → pages_opened a count x ≡ pages_opened a count y
unfolding pages_opened
pages_opened-whole a count x y enough fits also = rw (fault-whole a x y (count - 2) (omega arith) (omega arith)) refl

-- what was found is what the pages say
pub pages_found : (a : ℕ → List ℕ) (count whole : ℕ) (records : List Stored) → fault_of a count whole ≡ None → unread_in (slots_in a) (count - 2) ≡ None → records ≡ records_in (content a count) → pages_opened a count whole ≡ Ok records
unfolding pages_opened
pages_found a count whole records sound read are = rw (sound, read, are) refl

pub pages_fault : (a : ℕ → List ℕ) (count whole : ℕ) (f : ℕ × Damage) → fault_of a count whole ≡ Some f → pages_opened a count whole ≡ Err f
unfolding pages_opened
pages_fault a count whole f found = rw found refl

pub pages_unread : (a : ℕ → List ℕ) (count whole : ℕ) (f : ℕ × Damage) → fault_of a count whole ≡ None → unread_in (slots_in a) (count - 2) ≡ Some f → pages_opened a count whole ≡ Err f
unfolding pages_opened
pages_unread a count whole f sound found = rw (sound, found) refl

unless_ok : {A : Type 0} (f : Option (ℕ × Damage)) (rest : Result A (ℕ × Damage)) (x : A) → unless f rest ≡ Ok x → (f ≡ None) × (rest ≡ Ok x)
unless_ok None rest x e = (refl, e)
unless_ok (Some f) rest x e = absurd cc

or_some : (o p : Option (ℕ × Damage)) (f : ℕ × Damage) → option_or o p ≡ Some f → (o ≡ Some f) ⊎ (p ≡ Some f)
or_some None p f e = inr e
or_some (Some x) p f e = inl e

on_page : (o : Option Damage) (p : ℕ) (f : ℕ × Damage) → option_map (λ (kind : Damage). (p, kind)) o ≡ Some f → f.0 ≡ p
on_page None p f e = absurd cc
on_page (Some kind) p f e = let same : (p, kind) ≡ f = cc in ap (λ (x : ℕ × Damage). x.0) (sym same)

on_record : (b : Bool) (p : ℕ) (f : ℕ × Damage) → cond b None (Some (p, damages.Record)) ≡ Some f → f.0 ≡ p
on_record true p f e = absurd cc
on_record false p f e = let same : (p, damages.Record) ≡ f = cc in ap (λ (x : ℕ × Damage). x.0) (sym same)

fault_behind : (a : ℕ → List ℕ) (whole n : ℕ) (f : ℕ × Damage) → fault_in a whole n ≡ Some f → 2 ≤ f.0
fault_behind a whole zero f e = absurd cc
fault_behind a whole (suc n) f e = by_side (or_some (fault_in a whole n) (damage_on (is_in (slots_in a) n) (n + 2) (ltb (n + 2) whole) (slots_of (a (n + 2)))) f e) (fault_behind a whole n f)
  where
    by_side : (fault_in a whole n ≡ Some f) ⊎ (damage_on (is_in (slots_in a) n) (n + 2) (ltb (n + 2) whole) (slots_of (a (n + 2))) ≡ Some f) → (fault_in a whole n ≡ Some f → 2 ≤ f.0) → 2 ≤ f.0
    by_side (inl before) rest = rest before
    by_side (inr here) rest = let page_is = on_page (damage_in (is_in (slots_in a) n) (ltb (n + 2) whole) (slots_of (a (n + 2)))) (n + 2) f here in omega (arith, page_is)

unread_behind : (slots : ℕ → List Slot) (n : ℕ) (f : ℕ × Damage) → unread_in slots n ≡ Some f → 2 ≤ f.0
unread_behind slots zero f e = absurd cc
unread_behind slots (suc n) f e = by_side (or_some (unread_in slots n) (cond (are_records (slots (n + 2))) None (Some (n + 2, damages.Record))) f e) (unread_behind slots n f)
  where
    by_side : (unread_in slots n ≡ Some f) ⊎ (cond (are_records (slots (n + 2))) None (Some (n + 2, damages.Record)) ≡ Some f) → (unread_in slots n ≡ Some f → 2 ≤ f.0) → 2 ≤ f.0
    by_side (inl before) rest = rest before
    by_side (inr here) rest = let page_is = on_record (are_records (slots (n + 2))) (n + 2) f here in omega (arith, page_is)

unless_err : {A : Type 0} (o : Option (ℕ × Damage)) (rest : Result A (ℕ × Damage)) (f : ℕ × Damage) → unless o rest ≡ Err f → (o ≡ Some f) ⊎ (rest ≡ Err f)
unless_err None rest f e = inr e
unless_err (Some x) rest f e = inl cc

-- what pages say is damaged stands behind pages 0 and 1
pub opened_behind : (a : ℕ → List ℕ) (count whole : ℕ) (f : ℕ × Damage) → pages_opened a count whole ≡ Err f → 2 ≤ f.0
unfolding pages_opened
opened_behind a count whole f e = by_first (unless_err (fault_of a count whole) (unless (unread_in (slots_in a) (count - 2)) (Ok (records_in (content a count)))) f e)
  where
    by_second : (unread_in (slots_in a) (count - 2) ≡ Some f) ⊎ (◌≡◌ {A = Result (List Stored) (ℕ × Damage)} (Ok (records_in (content a count))) (Err f)) → 2 ≤ f.0
    by_second (inl unread) = unread_behind (slots_in a) (count - 2) f unread
    by_second (inr good) = absurd cc

    by_first : (fault_of a count whole ≡ Some f) ⊎ (unless (unread_in (slots_in a) (count - 2)) (Ok (records_in (content a count))) ≡ Err f) → 2 ≤ f.0
    by_first (inl found) = fault_behind a whole (count - 2) f found
    by_first (inr rest) = by_second (unless_err (unread_in (slots_in a) (count - 2)) (Ok (records_in (content a count))) f rest)

-- pages that open passed each test
pub record Passed (a : ℕ → List ℕ) (count whole : ℕ) (records : List Stored) : Type 0 where
  pub sound : fault_of a count whole ≡ None
  pub read : unread_in (slots_in a) (count - 2) ≡ None
  pub are : records_in (content a count) ≡ records

pub passed : (a : ℕ → List ℕ) (count whole : ℕ) (records : List Stored) → pages_opened a count whole ≡ Ok records → Passed a count whole records
unfolding pages_opened
passed a count whole records e =
    let t = unless_ok (fault_of a count whole) (unless (unread_in (slots_in a) (count - 2)) (Ok (records_in (content a count)))) records e in
    let u = unless_ok (unread_in (slots_in a) (count - 2)) (Ok (records_in (content a count))) records t.1 in
    let last = u.1 in
    record { sound = t.0; read = u.0; are = cc }

-- and lie whole in the file
pub pages_whole : (a : ℕ → List ℕ) (count whole : ℕ) (records : List Stored) → pages_opened a count whole ≡ Ok records → (p : ℕ) → 2 ≤ p → p < count → p < whole
pages_whole a count whole records e p from till = fault-below a whole (count - 2) (passed a count whole records e).sound p from (omega arith)

-- ---- files

pub opened_damage : (file : List ℕ) (f : ℕ × Damage) → damage_of file ≡ Some f → opened file ≡ Err f
unfolding opened
opened_damage file f e = rw e refl

pub opened_pages : (file : List ℕ) → damage_of file ≡ None → opened file ≡ pages_opened (held file) (count_of file) (length file / 4096)
unfolding opened
opened_pages file e = rw e refl

cond_none : (b : Bool) (f : ℕ × Damage) (o : Option (ℕ × Damage)) → cond b (Some f) o ≡ None → (b ≡ false) × (o ≡ None)
cond_none true f o e = absurd cc
cond_none false f o e = (refl, e)

-- a file that was opened passed the tests of pages 0 and 1, and its pages those of the heap
pub opened_parts : (file : List ℕ) (records : List Stored) → opened file ≡ Ok records → (damage_of file ≡ None) × (pages_opened (held file) (count_of file) (length file / 4096) ≡ Ok records)
unfolding opened
opened_parts file records e = unless_ok (damage_of file) (pages_opened (held file) (count_of file) (length file / 4096)) records e

-- a file that passed the tests of pages 0 and 1
pub damage_none : (file : List ℕ) → damage_of file ≡ None → (8192 ≤ length file) × (3 ≤ count_of file)
unfolding damage_of
damage_none file e =
    let a = cond_none (ltb (length file) 4096) (0, damages.Short) _ e in
    let b = cond_none (not (has_format file)) (0, damages.Format) _ a.1 in
    let c = cond_none (is_open file && not (is_in_order file)) (0, damages.Journal) _ b.1 in
    let d = cond_none (ltb (length file) 8192) (1, damages.Short) _ c.1 in
    let f = cond_none (ltb (count_of file) 3) (1, damages.Root) _ d.1 in
    (ltb-false (length file) 8192 d.0, ltb-false (count_of file) 3 f.0)

no_damage : (file : List ℕ) → 8192 ≤ length file → has_format file ≡ true → (is_open file ≡ true → is_in_order file ≡ true) → 3 ≤ count_of file → damage_of file ≡ None
unfolding damage_of
no_damage file size format order enough =
    let a : ltb (length file) 4096 ≡ false = le-ltb (length file) 4096 (omega arith) in
    let c : (is_open file && not (is_in_order file)) ≡ false = by_gate (is_open file) (is_in_order file) order in
    let d : ltb (length file) 8192 ≡ false = le-ltb (length file) 8192 size in
    let f : ltb (count_of file) 3 ≡ false = le-ltb (count_of file) 3 enough in
    rw (a, format, c, d, f) refl
  where
    by_gate : (o i : Bool) → (o ≡ true → i ≡ true) → (o && not i) ≡ false
    by_gate true i h = rw (h refl) refl
    by_gate false i h = refl

-- a file that stores these pages says what they say
pub opened-stores : (content : ℕ → List ℕ) (limit : ℕ) (file : List ℕ) → Stores content limit file → number_at (content 1) 0 ≡ limit → 3 ≤ limit → opened file ≡ pages_opened content limit limit
opened-stores content limit file stores counted enough =
    let whole = stores.whole in
    let count_is : count_of file ≡ limit = ap (λ bytes. number_at bytes 0) (stores.pages 1 (omega arith) (omega arith)) ∙ counted in
    let fine : damage_of file ≡ None = no_damage file (omega arith) stores.format stores.order (omega arith) in
    opened_pages file fine ∙ ap (λ n. pages_opened (held file) n (length file / 4096)) count_is
    ∙ pages_opened-whole (held file) limit (length file / 4096) limit (omega arith) (omega arith) (omega arith)
    ∙ pages_opened-same (held file) content limit limit (λ p from till. stores.pages p (omega arith) till)

-- a file that keeps what another says is opened as that one is
pub opened-keeps : (old file : List ℕ) → Keeps old file → opened file ≡ opened old
opened-keeps old file keeps = by_damage (damage_of old) refl
  where
    by_damage : (o : Option (ℕ × Damage)) → damage_of old ≡ o → opened file ≡ opened old
    by_damage (Some f) e = opened_damage file f (keeps.damage ∙ e) ∙ sym (opened_damage old f e)
    by_damage None e =
        let parts = damage_none old e in
        let size = parts.0 in
        let count_is : count_of file ≡ count_of old = ap (λ bytes. number_at bytes 0) (keeps.pages 1 (omega arith) (omega arith)) in
        opened_pages file (keeps.damage ∙ e) ∙ ap (λ n. pages_opened (held file) n (length file / 4096)) count_is ∙ ap (λ n. pages_opened (held file) (count_of old) (n / 4096)) keeps.size
        ∙ pages_opened-same (held file) (held old) (count_of old) (length old / 4096) (λ p from till. keeps.pages p (omega arith) till) ∙ sym (opened_pages old e)

pub made-keeps : (old file : List ℕ) → Keeps old file → is_made file ≡ is_made old
made-keeps old file keeps = ap (λ b. eqb b 0x5A) keeps.made

-- a file that was repaired says what its pages in their places say
pub opened-closed : (old file : List ℕ) (count : ℕ) → damage_of old ≡ None → Keeps old file → is_open file ≡ false → count ≡ count_of old → opened old ≡ pages_opened (page file) count (length file / 4096)
opened-closed old file count fine keeps closed count_is =
    let parts = damage_none old fine in
    let size = parts.0 in
    let same_count : count_of file ≡ count_of old = ap (λ bytes. number_at bytes 0) (keeps.pages 1 (omega arith) (omega arith)) in
    sym (opened-keeps old file keeps) ∙ opened_pages file (keeps.damage ∙ fine) ∙ ap (λ n. pages_opened (held file) n (length file / 4096)) (same_count ∙ sym count_is)
    ∙ pages_opened-same (held file) (page file) count (length file / 4096) (λ p from till. held_closed file p closed)
