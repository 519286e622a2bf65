-- The cause of a fault of the store is that of the line.
use Rattle.std.proofs.Common.{ℕ, refl, Err}
use Rattle.wm_faults.specs.declared.fault.StoreFault.{StoreFault}
use Rattle.wm_faults.specs.declared.fault.StoreFault.TheVariants.{Disk, Changed, Memory}
use Rattle.wm_page.specs.Cause.{StoreCause}
use Rattle.wm_engine.specs.Cause.{LineCause}
use Rattle.wm_engine.specs.Working.{fault_of}

pub line_cause : {S T : Type 0} (before after : ℕ) (fault : StoreFault) → StoreCause {T = S} before after (Err fault) → LineCause {T = T} before after (Err (fault_of fault))
line_cause before after Disk cause = record { later = cause.later; failed = λ h. cause.failed refl; changed = λ h. absurd cc; memory = λ h. absurd cc; done = tt }
line_cause before after Changed cause = record { later = cause.later; failed = λ h. absurd cc; changed = λ h. cause.changed refl; memory = λ h. absurd cc; done = tt }
line_cause before after Memory cause = record { later = cause.later; failed = λ h. absurd cc; changed = λ h. absurd cc; memory = λ h. cause.memory refl; done = tt }
