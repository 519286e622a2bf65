-- What opening gives, over plain histories.
use Rattle.std.proofs.Common.{◌≡◌, ℕ, ◌*◌, ◌≤◌, ⊎_elim, true, false, List, length, refl, sym, ◌∙◌, ap, subst, arith, Some, None}
use Rattle.std.specs.Prelude.{◌==◌}
use Rattle.std.proofs.lemmas.Bool.{cases_lt}
use Rattle.wm_faults.specs.declared.fault.OpenFault.{OpenFault}
use Rattle.wm_faults.specs.declared.fault.OpenFault.TheVariants.{Disk, NotStore, Damaged, Memory}
use Rattle.wm_page.specs.Fields.{number_at}
use Rattle.wm_station.specs.History.{History, Synced, now}
use Rattle.wm_journal.specs.Disk.{page, is_made, has_format, is_open, count_of, damage_of, held}
use Rattle.wm_journal.specs.Header.{IsHeader}
use Rattle.wm_journal.specs.Opening.{Says, Repaired, RepairedPart}
use Rattle.wm_journal.specs.Store.{Keeps, Rests, IsAtRest}
use Rattle.wm_journal.specs.declared.header.Header.{Header}
use Rattle.wm_journal.proofs.Repairs.{Kept, Mended, kept_none, kept_synced, kept_part, mended}
use Rattle.wm_journal.proofs.Stored.{held_closed}
use Rattle.wm_journal.proofs.Verdicts.{short_root}

pub kept_before : (old new : History) → new ≡ old → Kept old new
kept_before old new same = subst (Kept old) (sym same) (kept_none old)

pub kept_after : (old new : History) → new ≡ Synced old → Kept old new
kept_after old new same = subst (Kept old) (sym same) (kept_synced old)

-- the header is that of the file at the start
header_old : (h : Header) (old at : History) → at ≡ Synced old → IsHeader h (now at) → IsHeader h (now old)
header_old h old at same is = subst (λ (v : History). IsHeader h (now v)) same is

pub kept_failed : (h : Header) (old at from new : History) → at ≡ Synced old → from ≡ Synced old → IsHeader h (now at) → RepairedPart from new → Kept old new
kept_failed h old at from new one two is part =
    let header : IsHeader h (now old) = header_old h old at one is in
    kept_part old new header.made header.format (subst (λ (v : History). RepairedPart v new) two part)

pub mended_all : (h : Header) (old at from new : History) → at ≡ Synced old → from ≡ Synced old → IsHeader h (now at) → Repaired from new → Mended old new
mended_all h old at from new one two is done =
    let header : IsHeader h (now old) = header_old h old at one is in
    mended old new header.made header.format (subst (λ (v : History). Repaired v new) two done)

-- the length of the file, as it was told at first
pub size_mended : (size : ℕ) (old at new : History) → at ≡ Synced old → Mended old new → size ≡ length (now at) → size ≡ length (now new)
size_mended size old at new one mended told = subst (λ (v : History). size ≡ length (now v)) one told ∙ sym mended.kept.keeps.size

pub whole_mended : (h : Header) (old at new : History) → at ≡ Synced old → IsHeader h (now at) → Mended old new → 4096 ≤ length (now new)
whole_mended h old at new one is mended =
    let header : IsHeader h (now old) = header_old h old at one is in
    omega (arith, header.size, mended.kept.keeps.size)

-- an answer says of the file at the start what it says of it now
pub says_keeps : (a c : List ℕ) → Keeps a c → (e : OpenFault) → Says e c → Says e a
says_keeps a c keeps Disk says = tt
says_keeps a c keeps NotStore says = ap (λ (b : ℕ). b == 90) (sym keeps.made) ∙ says
says_keeps a c keeps (Damaged p kind) says = (ap (λ (b : ℕ). b == 90) (sym keeps.made) ∙ says.0, sym keeps.damage ∙ says.1)
says_keeps a c keeps Memory says = tt

-- a file that passes has its page 1
root_whole : (c : List ℕ) → has_format c ≡ true → is_open c ≡ false → 4096 ≤ length c → damage_of c ≡ None → 8192 ≤ length c
root_whole c format closed le none = ⊎_elim (λ lt. absurd (let short : damage_of c ≡ Some (1, _) = short_root c le format closed lt in cc)) (λ more. more) (cases_lt (length c) 8192)

-- all that opening gives
pub record Opened (old new : History) (count : ℕ) : Type 0 where
  pub made : is_made (now old) ≡ true
  pub damage : damage_of (now old) ≡ None
  pub count_is : count ≡ count_of (now old)
  pub mended : Mended old new
  pub rests : count * 4096 ≤ length (now new) → IsAtRest new count

at_rest : (old new : History) (count : ℕ) → Mended old new → count ≡ count_of (now new) → count * 4096 ≤ length (now new) → IsAtRest new count
at_rest old new count mended same whole =
    let here : Rests (page (now new)) count (now new) = record { made = mended.made; format = mended.format; closed = mended.closed; whole = whole; pages = λ p one under. refl } in
    record {
      rests = record { here = here; left = λ c left. subst (Rests (page (now new)) count) (sym (mended.durable c left)) here };
      counted = ap (λ (l : List ℕ). number_at l 0) (sym (held_closed (now new) 1 mended.closed)) ∙ sym same;
    }

opened_here : (old new : History) (count : ℕ) → Mended old new → 4096 ≤ length (now new) → count ≡ count_of (now new) → damage_of (now new) ≡ None → Opened old new count
opened_here old new count mended whole same none =
    let keeps : Keeps (now old) (now new) = mended.kept.keeps in
    let root : 8192 ≤ length (now new) = root_whole (now new) mended.format mended.closed whole none in
    let one : held (now new) 1 ≡ held (now old) 1 = keeps.pages 1 (omega arith) (omega (arith, keeps.size)) in
    record {
      made = ap (λ (b : ℕ). b == 90) (sym keeps.made) ∙ mended.made;
      damage = sym keeps.damage ∙ none;
      count_is = same ∙ ap (λ (l : List ℕ). number_at l 0) one;
      mended = mended;
      rests = at_rest old new count mended same;
    }

pub opened : (old middle new : History) (count : ℕ) → Mended old middle → new ≡ middle → 4096 ≤ length (now middle) → count ≡ count_of (now middle) → damage_of (now middle) ≡ None → Opened old new count
opened old middle new count mended told whole same none = subst (λ (v : History). Opened old v count) (sym told) (opened_here old middle count mended whole same none)

pub kept_told : (old middle new : History) → Mended old middle → new ≡ middle → Kept old new
kept_told old middle new mended told = subst (Kept old) (sym told) mended.kept
