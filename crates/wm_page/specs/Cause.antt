-- What the answer of a call says of a count of faults of the disk: whether it rose, or stands as it was.
use Rattle.std.specs.Prelude.{◌≡◌, ℕ, ◌+◌, ◌-◌, ◌^◌, ◌≤◌, min, Result, OnOk, IsErrOf}
use Rattle.wm_faults.specs.declared.fault.Damage.{Damage}
use Rattle.wm_faults.specs.declared.fault.MakeFault.{MakeFault}
use Rattle.wm_faults.specs.declared.fault.MakeFault.TheVariants as making
use Rattle.wm_faults.specs.declared.fault.OpenFault.{OpenFault}
use Rattle.wm_faults.specs.declared.fault.OpenFault.TheVariants as opening
use Rattle.wm_faults.specs.declared.fault.StoreFault.{StoreFault}
use Rattle.wm_faults.specs.declared.fault.StoreFault.TheVariants as storing
use Rattle.wm_page.specs.declared.pages.PagesFailed.{PagesFailed}
use Rattle.wm_page.specs.declared.pages.PagesFailed.TheVariants as paging

-- the count rose, or stands at the last value
abbrev pub Rises : ℕ → ℕ → Type 0
Rises before after = min (before + 1) (2 ^ 64 - 1) ≤ after

-- a count of faults does not fall: a call answers Failed where it rose, and all else where it stands
pub record PagesCause {T : Type 0} (before after : ℕ) (result : Result T PagesFailed) : Type 0 where
  pub later : before ≤ after
  pub failed : IsErrOf result paging.Failed → Rises before after
  pub memory : IsErrOf result paging.Memory → after ≡ before
  pub done : OnOk result (after ≡ before)

-- the same of a call that makes a store
pub record MakeCause {T : Type 0} (before after : ℕ) (result : Result T MakeFault) : Type 0 where
  pub later : before ≤ after
  pub failed : IsErrOf result making.Disk → Rises before after
  pub exists : IsErrOf result making.Exists → after ≡ before
  pub memory : IsErrOf result making.Memory → after ≡ before
  pub done : OnOk result (after ≡ before)

-- of one that opens a store
pub record OpenCause {T : Type 0} (before after : ℕ) (result : Result T OpenFault) : Type 0 where
  pub later : before ≤ after
  pub failed : IsErrOf result opening.Disk → Rises before after
  pub store : IsErrOf result opening.NotStore → after ≡ before
  pub damaged : (page : ℕ) (kind : Damage) → IsErrOf result (opening.Damaged page kind) → after ≡ before
  pub memory : IsErrOf result opening.Memory → after ≡ before
  pub done : OnOk result (after ≡ before)

-- of one that reads or changes a store that is open
pub record StoreCause {T : Type 0} (before after : ℕ) (result : Result T StoreFault) : Type 0 where
  pub later : before ≤ after
  pub failed : IsErrOf result storing.Disk → Rises before after
  pub changed : IsErrOf result storing.Changed → after ≡ before
  pub memory : IsErrOf result storing.Memory → after ≡ before
  pub done : OnOk result (after ≡ before)
