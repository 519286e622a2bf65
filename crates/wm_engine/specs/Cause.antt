-- What the answer of a line says of the count of the disk's faults.
use Rattle.std.specs.Prelude.{◌≡◌, ℕ, ◌≤◌, Result, OnOk, IsErrOf}
use Rattle.wm_station.specs.Cause.{Rises}
use Rattle.wm_engine.specs.declared.fault.LineFault.{LineFault}
use Rattle.wm_engine.specs.declared.fault.LineFault.TheVariants.{Disk, Changed, Memory}

-- the count does not fall: Disk comes where it rose, and all else where it stands
pub record LineCause {T : Type 0} (before after : ℕ) (result : Result T LineFault) : Type 0 where
  pub later : before ≤ after
  pub failed : IsErrOf result Disk → Rises before after
  pub changed : IsErrOf result Changed → after ≡ before
  pub memory : IsErrOf result Memory → after ≡ before
  pub done : OnOk result (after ≡ before)
