-- Laws on the check of a store, which is opened and says one short text.
use Rattle.std.proofs.Common.{ℕ, ◌≡◌, ◌⊎◌, ⊎_elim, inl, inr, ◌==◌, true, List, [], ◌∷◌, ◌++◌, refl, ap, sym, subst, ◌∙◌, append-nil}
use Rattle.std.specs.Prelude.{Result, Ok, Err, OnOk, OnErr, IfErr}
use Rattle.std.specs.List.{list_any}
use Rattle.wm_engine.specs.Working.{HoldsSorted, IsSound}
use Rattle.wm_spec.specs.declared.record.stored.Stored.{Stored}
use Rattle.wm_station.specs.History.{History, Synced, now, said, moment}
use Rattle.wm_station.specs.Moments.{During, Holds, Silent}
use Rattle.wm_station.proofs.Steps.{during_begun, followed, weaken}
use Rattle.wm_store.specs.Opened.{HoldsAs}
use Rattle.wm_journal.specs.Store.{Settles}
use Rattle.wm_host.specs.Cause.{IsOfOpening, IsOfSaying}
use Rattle.wm_host.specs.Crash.{CrashSays}
use Rattle.wm_host.specs.Outcome.{CrashChecks, HasSaidFront, HoldsBehindSync, HoldsSame, IsUnwritten, ok_text}
use Rattle.wm_host.specs.Saying.{OnlySaid, SaidPart}
use Rattle.wm_host.specs.Status.{status_of, place_of}
use Rattle.wm_host.specs.declared.stop.Stop.{Stop}
use Rattle.wm_host.specs.declared.stop.Stop.TheVariants.{SourceFault, SayFault, DiskFault, NotStore, Damaged, Exists, InputLimit, Memory, Changed}
use Rattle.wm_host.proofs.Ending.{unopened_status}
use Rattle.wm_host.proofs.Saying.{now-only}
use Rattle.wm_host.proofs.Sounding.{OpensAs, leaves_since}

-- ---- the records stay the same

pub holds_same : (old : List ℕ) (records : List Stored) (h : History) → HoldsSorted old records → Holds h (λ file. HoldsSorted file records) → Holds h (HoldsSame old)
holds_same old records h before holds = record {
  here = record { records = records; before = before; holds = holds.here };
  left = λ c leaves. record { records = records; before = before; holds = holds.left c leaves };
}

-- however the saying ended, a read gives what it gave
pub now_said : (tells : Type 0) (old new : History) (piece : List ℕ) (result : Result (Unit {0}) Stop)
    → OnOk result (OnlySaid old new piece) → OnErr result (SaidPart tells old new piece) → tells → now new ≡ now old
now_said tells old new piece (Ok done) only part t = now-only old new piece only
now_said tells old new piece (Err stop) only part t = now-only old new part.part (part.only t)

-- ---- nothing was said

pub front_none : (old new : History) → said new ≡ said old → HasSaidFront old new ok_text
front_none old new quiet = record { front = []; says = quiet ∙ sym (append-nil (said old)); rest = ok_text; is = refl }

checks_none : (old : History) (file after : List ℕ) → OpensAs old file after → CrashChecks old file after
checks_none old file after opens = record { kept = opens.0; front = []; said_is = opens.1 ∙ sym (append-nil (said old)); rest = ok_text; is = refl; opened = inl refl }

pub crash_unchecked : (old new : History) → During old new (OpensAs old) → During old new (CrashChecks old)
crash_unchecked old new opening = weaken old new (OpensAs old) (CrashChecks old) (checks_none old) opening

pub crash_unread : (h : History) → During h h (CrashChecks h)
crash_unread h = during_begun h (CrashChecks h) (λ file leaves. checks_none h file (said h) (inl leaves, refl))

-- ---- a crash while it is said that the store is in order

pub crash_checked : (old begun new : History) (piece : List ℕ) → piece ≡ ok_text → said begun ≡ said old → IsSound (now old) → Holds begun (HoldsSame (now old)) → During old begun (OpensAs old) → During begun new (CrashSays begun piece) → During old new (CrashChecks old)
crash_checked old begun new piece is quiet sound same opening says =
    weaken old new (λ file after. OpensAs old file after ⊎ CrashSays begun piece file after) (CrashChecks old) (λ file after. ⊎_elim (checks_none old file after) (checks_some file after))
    (followed old begun new (OpensAs old) (CrashSays begun piece) opening says) where
      checks_some : (file after : List ℕ) → CrashSays begun piece file after → CrashChecks old file after
      checks_some file after some = record {
        kept = (opening.each file (said begun) (leaves_since begun (moment old) file opening.later some.leaves)).0;
        front = some.front;
        said_is = some.said_is ∙ ap (λ (b : List ℕ). b ++ some.front) quiet;
        rest = some.rest;
        is = sym is ∙ some.is;
        opened = inr (sound, same.left file some.leaves);
      }

-- ---- a crash behind the first sync

-- where nothing, or only what follows, was said
pub settled_unchecked : (old new : History) → Settles old new (HoldsAs (now old)) → HoldsBehindSync old new
settled_unchecked old new settles =
    ⊎_elim (λ same. inl ([], record { calls = []; told = same; out_is = refl }))
    (λ run. inr (weaken (Synced old) new (Silent old (HoldsAs (now old))) (λ file after. HoldsAs (now old) file) (λ file after both. both.0) run)) settles

settled_saying : (old begun new : History) (piece : List ℕ) → During begun new (CrashSays begun piece) → During (Synced old) begun (Silent old (HoldsAs (now old))) → During (Synced old) new (λ file after. HoldsAs (now old) file)
settled_saying old begun new piece says run =
    weaken (Synced old) new (λ file after. Silent old (HoldsAs (now old)) file after ⊎ CrashSays begun piece file after) (λ file after. HoldsAs (now old) file)
    (λ file after. ⊎_elim (λ silent. silent.0) (λ some. (run.each file (said begun) (leaves_since begun (moment (Synced old)) file run.later some.leaves)).0))
    (followed (Synced old) begun new (Silent old (HoldsAs (now old))) (CrashSays begun piece) run says)

pub settled_checked : (old begun new : History) (piece out : List ℕ) → OnlySaid begun new out → During begun new (CrashSays begun piece) → Settles old begun (HoldsAs (now old)) → HoldsBehindSync old new
settled_checked old begun new piece out only says settles =
    ⊎_elim (λ same. inl (out, subst (λ (h : History). OnlySaid h new out) same only)) (λ run. inr (settled_saying old begun new piece says run)) settles

-- however the saying ended
pub settled_said : (tells : Type 0) (old begun new : History) (piece : List ℕ) (result : Result (Unit {0}) Stop) → tells → OnOk result (OnlySaid begun new piece) → OnErr result (SaidPart tells begun new piece)
    → During begun new (CrashSays begun piece) → Settles old begun (HoldsAs (now old)) → HoldsBehindSync old new
settled_said tells old begun new piece (Ok done) t only part says settles = settled_checked old begun new piece piece only says settles
settled_said tells old begun new piece (Err stop) t only part says settles = settled_checked old begun new piece part.part (part.only t) says settles

-- where nothing was done
pub settled_unread : (h : History) → HoldsBehindSync h h
settled_unread h = inl ([], record { calls = []; told = refl; out_is = refl })

-- ---- statuses

-- saying ends with none of these
not_by_saying : (run : Result (Unit {0}) Stop) (number : ℕ) → number ≡ status_of run → IfErr run IsOfSaying → list_any (λ (status : ℕ). status == number) (5 ∷ 6 ∷ 7 ∷ []) ≡ true → ⊥
not_by_saying (Ok done) number is of e = let f : list_any (λ (status : ℕ). status == 0) (5 ∷ 6 ∷ 7 ∷ []) ≡ true = subst (λ (n : ℕ). list_any (λ (status : ℕ). status == n) (5 ∷ 6 ∷ 7 ∷ []) ≡ true) is e in cc
not_by_saying (Err SayFault) number is of e = let f : list_any (λ (status : ℕ). status == 4) (5 ∷ 6 ∷ 7 ∷ []) ≡ true = subst (λ (n : ℕ). list_any (λ (status : ℕ). status == n) (5 ∷ 6 ∷ 7 ∷ []) ≡ true) is e in cc
not_by_saying (Err Memory) number is of e = let f : list_any (λ (status : ℕ). status == 10) (5 ∷ 6 ∷ 7 ∷ []) ≡ true = subst (λ (n : ℕ). list_any (λ (status : ℕ). status == n) (5 ∷ 6 ∷ 7 ∷ []) ≡ true) is e in cc
not_by_saying (Err SourceFault) number is of e = of
not_by_saying (Err DiskFault) number is of e = of
not_by_saying (Err NotStore) number is of e = of
not_by_saying (Err (Damaged page kind)) number is of e = of
not_by_saying (Err Exists) number is of e = of
not_by_saying (Err InputLimit) number is of e = of
not_by_saying (Err Changed) number is of e = of

pub saying_status : (run : Result (Unit {0}) Stop) (number : ℕ) → number ≡ status_of run → IfErr run IsOfSaying → (number ≡ 5) ⊎ ((number ≡ 6) ⊎ (number ≡ 7)) → ⊥
saying_status run number is of (inl five) = not_by_saying run number is of (rw five refl)
saying_status run number is of (inr (inl six)) = not_by_saying run number is of (rw six refl)
saying_status run number is of (inr (inr seven)) = not_by_saying run number is of (rw seven refl)

-- and names no page
pub placed_by_saying : (run : Result (Unit {0}) Stop) → IfErr run IsOfSaying → IsUnwritten (place_of run) → ⊥
placed_by_saying (Ok done) of unwritten = unwritten
placed_by_saying (Err SayFault) of unwritten = unwritten
placed_by_saying (Err Memory) of unwritten = unwritten
placed_by_saying (Err SourceFault) of unwritten = of
placed_by_saying (Err DiskFault) of unwritten = of
placed_by_saying (Err NotStore) of unwritten = of
placed_by_saying (Err (Damaged page kind)) of unwritten = of
placed_by_saying (Err Exists) of unwritten = of
placed_by_saying (Err InputLimit) of unwritten = of
placed_by_saying (Err Changed) of unwritten = of

pub statuses_of_saying : (run : Result (Unit {0}) Stop) (number : ℕ) → number ≡ status_of run → IfErr run IsOfSaying → list_any (λ (status : ℕ). status == number) (0 ∷ 4 ∷ 5 ∷ 6 ∷ 7 ∷ 10 ∷ []) ≡ true
statuses_of_saying (Ok done) number is of = rw is refl
statuses_of_saying (Err SayFault) number is of = rw is refl
statuses_of_saying (Err Memory) number is of = rw is refl
statuses_of_saying (Err SourceFault) number is of = absurd of
statuses_of_saying (Err DiskFault) number is of = absurd of
statuses_of_saying (Err NotStore) number is of = absurd of
statuses_of_saying (Err (Damaged page kind)) number is of = absurd of
statuses_of_saying (Err Exists) number is of = absurd of
statuses_of_saying (Err InputLimit) number is of = absurd of
statuses_of_saying (Err Changed) number is of = absurd of

pub statuses_of_opening : (stop : Stop) (number : ℕ) → number ≡ status_of (Err stop) → IsOfOpening stop → list_any (λ (status : ℕ). status == number) (0 ∷ 4 ∷ 5 ∷ 6 ∷ 7 ∷ 10 ∷ []) ≡ true
statuses_of_opening DiskFault number is of = rw is refl
statuses_of_opening NotStore number is of = rw is refl
statuses_of_opening (Damaged page kind) number is of = rw is refl
statuses_of_opening Memory number is of = rw is refl
statuses_of_opening SourceFault number is of = absurd of
statuses_of_opening SayFault number is of = absurd of
statuses_of_opening Exists number is of = absurd of
statuses_of_opening InputLimit number is of = absurd of
statuses_of_opening Changed number is of = absurd of

-- opening fails with neither of these
pub unopened_either : (stop : Stop) (number : ℕ) → number ≡ status_of (Err stop) → IsOfOpening stop → (number ≡ 0) ⊎ (number ≡ 4) → ⊥
unopened_either stop number is of (inl zero) = unopened_status stop number is of (rw zero refl)
unopened_either stop number is of (inr four) = unopened_status stop number is of (rw four refl)
