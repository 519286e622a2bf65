-- What the answer of a call says of a count of faults: whether it rose, or stands as it was.
use Rattle.std.specs.Prelude.{◌≡◌, ℕ, ◌+◌, ◌-◌, ◌^◌, ◌≤◌, min, Result, OnOk, OnErr, IsErrOf}
use Rattle.wm_station.specs.declared.fault.DiskFailed.{DiskFailed}
use Rattle.wm_station.specs.declared.fault.DiskFailed.TheVariants.{Failed, Memory}
use Rattle.wm_station.specs.declared.fault.SayFailed.{SayFailed}
use Rattle.wm_station.specs.declared.fault.SayFailed.TheVariants.{Failed as SayingFailed, Memory as SayingMemory}

-- the count rose, or stands at the last value
abbrev pub Rises : ℕ → ℕ → Type 0
Rises before after = min (before + 1) (2 ^ 64 - 1) ≤ after

-- a count of faults does not fall: a call answers Failed where it rose, and all else where it stands
pub record DiskCause {T : Type 0} (before after : ℕ) (result : Result T DiskFailed) : Type 0 where
  pub later : before ≤ after
  pub failed : IsErrOf result Failed → Rises before after
  pub memory : IsErrOf result Memory → after ≡ before
  pub done : OnOk result (after ≡ before)

-- the same for a say; what one that said something, or had nothing to say, leaves is a clause of its own
pub record SayCause {T : Type 0} (before after : ℕ) (result : Result T SayFailed) : Type 0 where
  pub later : before ≤ after
  pub failed : IsErrOf result SayingFailed → Rises before after
  pub memory : IsErrOf result SayingMemory → after ≡ before

-- the same for a source, which fails for no other reason
pub record SourceCause {T E : Type 0} (before after : ℕ) (result : Result T E) : Type 0 where
  pub later : before ≤ after
  pub failed : OnErr result (Rises before after)
  pub done : OnOk result (after ≡ before)
