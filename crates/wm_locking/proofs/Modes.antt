-- The plan of SetLockingON and of SetLockingOFF fits the records.
use Rattle.std.proofs.Common.{ℕ, List, Option, refl}
use Rattle.wm_model.specs.Step.{set_locking_plan}
use Rattle.wm_outcome.proofs.Fitting.{fits_done}
use Rattle.wm_outcome.specs.Fitting.{Fits}
use Rattle.wm_spec.specs.declared.record.lock.LockMode.{LockMode}
use Rattle.wm_spec.specs.declared.record.stored.Stored.{Stored}
use Rattle.wm_state.specs.State.{Session}

pub fits_set_locking : (rs : List Stored) (m : ℕ) (session : Session) (fault : Option (List ℕ)) (mode : Option LockMode) → Fits rs m (set_locking_plan session fault mode)
fits_set_locking rs m session fault mode = fits_done rs m (set_locking_plan session fault mode) (λ clear. tt) tt refl
