-- What holds at each moment of a run and at its end, over one stretch of it after another.
use Rattle.std.proofs.Common.{◌⊎◌, ⊎_elim, List, ℕ}
use Rattle.wm_station.specs.History.{History, now, said}
use Rattle.wm_station.specs.Moments.{Holds}
use Rattle.wm_station.proofs.Steps.{during_begun, followed, weaken}
use Rattle.wm_host.specs.Crash.{Throughout}

-- a stretch of no call
pub throughout_begun : (h : History) (T : List ℕ → Type 0) (P : List ℕ → List ℕ → Type 0) → Holds h T → ((c : List ℕ) → T c → P c (said h)) → Throughout h h P
throughout_begun h T P holds to = record {
  crash = during_begun h P (λ c leaves. to c (holds.left c leaves));
  here = to (now h) holds.here;
}

pub throughout_weaker : (old new : History) (P Q : List ℕ → List ℕ → Type 0) → ((c s : List ℕ) → P c s → Q c s) → Throughout old new P → Throughout old new Q
throughout_weaker old new P Q to run = record {
  crash = weaken old new P Q to run.crash;
  here = to (now new) (said new) run.here;
}

-- one stretch after another
pub throughout_more : (old middle new : History) (P Q R : List ℕ → List ℕ → Type 0) → ((c s : List ℕ) → P c s → R c s) → ((c s : List ℕ) → Q c s → R c s)
    → Throughout old middle P → Throughout middle new Q → Throughout old new R
throughout_more old middle new P Q R was then first second = record {
  crash = weaken old new (λ c s. P c s ⊎ Q c s) R (λ c s. ⊎_elim (was c s) (then c s)) (followed old middle new P Q first.crash second.crash);
  here = then (now new) (said new) second.here;
}
