-- A store is opened: what the journal says, what the pages say, and what is left.
use Rattle.std.proofs.Common.{◌≡◌, ℕ, ◌-◌, ◌*◌, ◌/◌, ◌≤◌, ◌⊎◌, inl, inr, ⊎_elim, true, List, length, Result, Ok, Err, IfOk, OnOk, sym, ap, subst, ◌∙◌, arith}
use Rattle.wm_faults.specs.declared.fault.OpenFault.{OpenFault}
use Rattle.wm_faults.specs.declared.fault.OpenFault.TheVariants as faults
use Rattle.wm_spec.specs.declared.record.stored.Stored.{Stored}
use Rattle.wm_station.specs.History.{History, now, said, Leaves, Synced}
use Rattle.wm_station.specs.Moments.{Holds, During, Silent}
use Rattle.wm_station.proofs.Steps.{weaken}
use Rattle.wm_journal.specs.Disk.{page, is_made}
use Rattle.wm_journal.specs.Opening.{Says, IsUntouched}
use Rattle.wm_journal.specs.Store.{IsAtRest, Keeps, Settles}
use Rattle.wm_heap.specs.Places.{IsHeapOf}
use Rattle.wm_store.specs.Answers.{SaysOf, FindsIn}
use Rattle.wm_store.specs.Opened.{pages_opened, opened, Held, SaysAs, HoldsAs}
use Rattle.wm_store.specs.Stores.{IsStoreOf}
use Rattle.wm_store.specs.declared.store.Store.{Store}
use Rattle.wm_store.proofs.Opening.{pages_whole, opened_damage, opened-keeps, made-keeps, opened_behind}

-- ---- the pages

-- what they say where nothing was done
pub opened_at : (old at : History) (count whole : ℕ) → at ≡ old → whole ≡ length (now old) / 4096 → pages_opened (page (now at)) count whole ≡ pages_opened (page (now old)) count (length (now old) / 4096)
opened_at old at count whole same whole_is = ap (λ n. pages_opened (page (now at)) count n) whole_is ∙ ap (λ (h : History). pages_opened (page (now h)) count (length (now old) / 4096)) same

pub size_found : {A : Type 0} (r : Result (A × List Stored) OpenFault) (file : List ℕ) (count whole : ℕ) (pages : ℕ → List ℕ) → 3 ≤ count → whole ≡ length file / 4096
    → IfOk r (λ x. pages_opened pages count whole ≡ Ok x.1) → OnOk r (count * 4096 ≤ length file)
size_found (Ok x) file count whole pages enough whole_is opens = let last = pages_whole pages count whole x.1 opens (count - 1) (omega arith) (omega arith) in omega arith
size_found (Err e) file count whole pages enough whole_is opens = tt

-- ---- the file

pub says_of : (e : OpenFault) (file : List ℕ) → Says e file → SaysOf e file
says_of faults.Disk file says = tt
says_of faults.NotStore file says = says
says_of faults.Memory file says = tt
says_of (faults.Damaged p kind) file says = (says.0, opened_damage file (p, kind) says.1)

-- where no store was made nothing was written
pub untouched_by : (e : OpenFault) (old new : History) → (IsUntouched e → new ≡ Synced old) → e ≡ faults.NotStore → now new ≡ now old
untouched_by e old new untouched is = ap (λ (h : History). now h) (untouched (subst (λ x. IsUntouched x) (sym is) tt))

pub says_as : (old file : List ℕ) → Keeps old file → SaysAs old file
says_as old file keeps = record { made = made-keeps old file keeps; opens = opened-keeps old file keeps }

pub moments_say : (old new : History) → During old new (λ c s. (Leaves old c ⊎ Keeps (now old) c) × (s ≡ said old)) → During old new (λ c s. (Leaves old c ⊎ SaysAs (now old) c) × (s ≡ said old))
moments_say old new run =
    weaken old new (λ c s. (Leaves old c ⊎ Keeps (now old) c) × (s ≡ said old)) (λ c s. (Leaves old c ⊎ SaysAs (now old) c) × (s ≡ said old))
    (λ c s both. (⊎_elim (λ left. inl left) (λ keeps. inr (says_as (now old) c keeps)) both.0, both.1)) run

pub holds_as : (old file : List ℕ) → Keeps old file → HoldsAs old file
holds_as old file keeps = record { pages = keeps; says = says_as old file keeps }

pub moments_hold : (old new : History) → During old new (λ c s. (Leaves old c ⊎ Keeps (now old) c) × (s ≡ said old)) → During old new (λ c s. (Leaves old c ⊎ HoldsAs (now old) c) × (s ≡ said old))
moments_hold old new run =
    weaken old new (λ c s. (Leaves old c ⊎ Keeps (now old) c) × (s ≡ said old)) (λ c s. (Leaves old c ⊎ HoldsAs (now old) c) × (s ≡ said old))
    (λ c s both. (⊎_elim (λ left. inl left) (λ keeps. inr (holds_as (now old) c keeps)) both.0, both.1)) run

pub settles_hold : (old new : History) → Settles old new (Keeps (now old)) → Settles old new (HoldsAs (now old))
settles_hold old new settles =
    ⊎_elim (λ same. inl same)
    (λ run. inr (weaken (Synced old) new (Silent old (Keeps (now old))) (Silent old (HoldsAs (now old))) (λ c s both. (holds_as (now old) c both.0, both.1)) run)) settles

-- what the pages say is nothing that is found before anything is written
pub behind_page_0 : (e : OpenFault) (pages : ℕ → List ℕ) (count whole : ℕ) → FindsIn e (pages_opened pages count whole) → IsUntouched e → ⊥
behind_page_0 faults.Disk pages count whole finds untouched = untouched
behind_page_0 faults.NotStore pages count whole finds untouched = finds
behind_page_0 faults.Memory pages count whole finds untouched = untouched
behind_page_0 (faults.Damaged p kind) pages count whole finds untouched = let high = opened_behind pages count whole (p, kind) finds in omega arith

-- what the pages of the repaired file say is what the file said
pub says_in : (e : OpenFault) (old file : List ℕ) (count : ℕ) → is_made old ≡ true → opened old ≡ pages_opened (page file) count (length file / 4096) → FindsIn e (pages_opened (page file) count (length file / 4096)) → SaysOf e old
says_in faults.Disk old file count made same finds = tt
says_in faults.NotStore old file count made same finds = absurd finds
says_in faults.Memory old file count made same finds = tt
says_in (faults.Damaged p kind) old file count made same finds = (made, same ∙ finds)

-- what a crash leaves is what a read gives, and that holds the records
pub held_on : (old new : History) (records : List Stored) → Held records (now old) → Keeps (now old) (now new) → ((c : List ℕ) → Leaves new c → c ≡ now new) → Holds new (Held records)
held_on old new records held keeps durable = record { here = here; left = λ c left. subst (λ f. Held records f) (sym (durable c left)) here }
  where
    here : Held records (now new)
    here = record { made = made-keeps (now old) (now new) keeps ∙ held.made; opens = opened-keeps (now old) (now new) keeps ∙ held.opens }

pub store_on : (new : History) (store : Store) (records : List Stored) → IsAtRest new store.journal → IsHeapOf store.heap (page (now new)) store.journal → Holds new (Held records) → IsStoreOf store new
store_on new store records rests is_heap holds = record { rests = rests; heap = is_heap; opens = (records, holds.here.opens) }
