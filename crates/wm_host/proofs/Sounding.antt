-- A store whose records keep the rules stays one, over one stretch of a run after another.
use Rattle.std.proofs.Common.{ℕ, ◌≡◌, ◌≤◌, ◌⊎◌, ⊎_elim, inl, inr, List, refl, sym, subst, ◌∙◌}
use Rattle.wm_engine.specs.Working.{Engaged, IsSound}
use Rattle.wm_engine.proofs.Sounding.{sound_over}
use Rattle.wm_station.specs.History.{History, Begin, Wrote, Synced, Said, now, said, moment, Leaves, Since}
use Rattle.wm_station.specs.Moments.{During, Ended, Holds, Silent}
use Rattle.wm_station.proofs.Steps.{followed, weaken}
use Rattle.wm_store.specs.Opened.{HoldsAs}
use Rattle.wm_host.specs.Crash.{Throughout, CrashSays, CrashSound}
use Rattle.wm_host.specs.Hosting.{WorksSoundly}
use Rattle.wm_host.specs.Outcome.{StaysSound}
use Rattle.wm_host.specs.Saying.{OnlySaid}
use Rattle.wm_host.proofs.Saying.{now-only}
use Rattle.wm_host.proofs.Throughout.{throughout_begun, throughout_more}

-- ---- stretches

holds_soundly : (e : Engaged) (h : History) → WorksSoundly e h → Holds h IsSound
holds_soundly e h soundly = sound_over e.store e.records h soundly.works soundly.rules

pub sound_begun : (e : Engaged) (h : History) → WorksSoundly e h → Throughout h h CrashSound
sound_begun e h soundly = throughout_begun h IsSound CrashSound (holds_soundly e h soundly) (λ file sound. sound)

pub sound_more : (old middle new : History) → Throughout old middle CrashSound → Throughout middle new CrashSound → Throughout old new CrashSound
sound_more old middle new = throughout_more old middle new CrashSound CrashSound CrashSound (λ file after sound. sound) (λ file after sound. sound)

-- a line was run
pub sound_line : (old new : History) → Ended old new IsSound → Throughout old new CrashSound
sound_line old new ended = record {
  crash = weaken old new (Silent old IsSound) CrashSound (λ file after silent. silent.0) ended.during;
  here = ended.here;
}

-- and its answer said, or a part of it, which changes nothing of the file
pub sound_answer : (e : Engaged) (old middle new : History) (bytes out : List ℕ) → Ended old middle IsSound → WorksSoundly e middle → During middle new (CrashSays middle bytes) → OnlySaid middle new out → Throughout old new CrashSound
sound_answer e old middle new bytes out ended soundly crash only = sound_more old middle new (sound_line old middle ended) (record {
  crash = weaken middle new (CrashSays middle bytes) CrashSound (λ file after says. (holds_soundly e middle soundly).left file says.leaves) crash;
  here = subst IsSound (sym (now-only middle new out only)) (holds_soundly e middle soundly).here;
})

-- ---- the end of a run

-- a crash at the end is one since each moment before it
pub leaves_since : (h : History) (t : ℕ) (file : List ℕ) → t ≤ moment h → Leaves h file → Since h t file (said h)
leaves_since (Begin image) t file le leaves = (le, leaves, refl)
leaves_since (Wrote h at n image) t file le leaves = inl (le, leaves, refl)
leaves_since (Synced h) t file le leaves = inl (le, leaves, refl)
leaves_since (Said h piece n) t file le leaves = inl (le, leaves, refl)

pub sound_at_end : (old new : History) → Throughout old new CrashSound → Holds new IsSound
sound_at_end old new run = record {
  here = run.here;
  left = λ file leaves. run.crash.each file (said new) (leaves_since new (moment old) file run.crash.later leaves);
}

-- ---- a run over a file

-- the file holds what another held
sound_as : (old file : List ℕ) → HoldsAs old file → IsSound old → IsSound file
sound_as old file holds sound = record {
  records = sound.records;
  holds = record {
    records = sound.holds.records;
    held = record { made = holds.says.made ∙ sound.holds.held.made; opens = holds.says.opens ∙ sound.holds.held.opens };
    same = sound.holds.same;
  };
  rules = sound.rules;
}

-- what a crash while the store is opened leaves
abbrev pub OpensAs : History → List ℕ → List ℕ → Type 0
OpensAs old file after = (Leaves old file ⊎ HoldsAs (now old) file) × (after ≡ said old)

crash_opening : (old begun : History) → IsSound (now old) → During old begun (OpensAs old) → During old begun (λ file after. Leaves old file ⊎ IsSound file)
crash_opening old begun sound opening =
    weaken old begun (OpensAs old) (λ file after. Leaves old file ⊎ IsSound file) (λ file after opens. ⊎_elim (λ was. inl was) (λ holds. inr (sound_as (now old) file holds sound)) opens.0) opening

pub sound_unopened : (old new : History) → IsSound (now old) → HoldsAs (now old) (now new) → During old new (OpensAs old) → StaysSound old new
sound_unopened old new sound holds opening = record { here = sound_as (now old) (now new) holds sound; crash = crash_opening old new sound opening }

pub sound_ran : (old begun new : History) → IsSound (now old) → During old begun (OpensAs old) → Throughout begun new CrashSound → StaysSound old new
sound_ran old begun new sound opening run = record {
  here = run.here;
  crash = weaken old new (λ file after. (Leaves old file ⊎ IsSound file) ⊎ IsSound file) (λ file after. Leaves old file ⊎ IsSound file) (λ file after. ⊎_elim (λ was. was) (λ ran. inr ran))
      (followed old begun new (λ file after. Leaves old file ⊎ IsSound file) CrashSound (crash_opening old begun sound opening) run.crash);
}
