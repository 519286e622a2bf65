-- What stands under an id on the pages of a store at rest is the record that it holds there.
use Rattle.std.proofs.Common.{◌≡◌, ℕ, ◌-◌, ◌≤◌, true, List, Option, Some, is_some, Ok, sym, ap, subst, ◌∙◌}
use Rattle.std.specs.Option.{option_and_then}
use Rattle.wm_spec.specs.declared.record.stored.Stored.{Stored}
use Rattle.wm_spec.specs.Records.{record_at}
use Rattle.wm_codec.specs.Reading.{record_of}
use Rattle.wm_station.specs.History.{History, now}
use Rattle.wm_journal.specs.Disk.{page}
use Rattle.wm_journal.specs.Store.{IsAtRest}
use Rattle.wm_heap.specs.Content.{bytes_at, slots_in, content}
use Rattle.wm_store.specs.Opened.{records_in, are_records, opened, Held}
use Rattle.wm_store.proofs.Opening.{passed}
use Rattle.wm_store.proofs.Reading.{record_at-records_in, bytes_read, unread_none}
use Rattle.wm_store.proofs.Storing.{pages_held}

-- the slots of all pages are the records that are held
record Spelled (h : History) (count : ℕ) (records : List Stored) : Type 0 where
  pub are : are_records (content (page (now h)) count) ≡ true
  pub same : records_in (content (page (now h)) count) ≡ records

spelled : (h : History) (count : ℕ) (records : List Stored) → IsAtRest h count → 3 ≤ count → opened (now h) ≡ Ok records → Spelled h count records
spelled h count records rests enough opens =
    let was = passed (page (now h)) count count records (pages_held h count records rests enough opens) in
    record { are = unread_none (slots_in (page (now h))) (count - 2) was.read; same = was.are }

-- the bytes under an id spell the record there
pub fetched : (h : History) (count before id : ℕ) (bytes : Option (List ℕ)) (records : List Stored) → count ≡ before → IsAtRest h before → 3 ≤ count → Held records (now h) → bytes ≡ bytes_at (content (page (now h)) count) id
    → option_and_then record_of bytes ≡ record_at records id
fetched h count before id bytes records is rests enough held bytes_are =
    let all = spelled h count records (subst (λ n. IsAtRest h n) (sym is) rests) enough held.opens in
    ap (λ o. option_and_then record_of o) bytes_are ∙ sym (record_at-records_in (content (page (now h)) count) id all.are) ∙ ap (λ l. record_at l id) all.same

-- and there is one
pub is_spelled : (h : History) (count before id : ℕ) (bytes : List ℕ) (records : List Stored) → count ≡ before → IsAtRest h before → 3 ≤ count → opened (now h) ≡ Ok records → Some bytes ≡ bytes_at (content (page (now h)) count) id → is_some (record_of bytes) ≡ true
is_spelled h count before id bytes records is rests enough opens bytes_are =
    let all = spelled h count records (subst (λ n. IsAtRest h n) (sym is) rests) enough opens in
    bytes_read (content (page (now h)) count) id bytes all.are (sym bytes_are)
