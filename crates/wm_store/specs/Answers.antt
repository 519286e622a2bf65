-- What the faults of opening a store say of the file.
use Rattle.std.specs.Prelude.{◌≡◌, ℕ, true, false, List, Result, Err}
use Rattle.wm_faults.specs.declared.fault.Damage.{Damage}
use Rattle.wm_faults.specs.declared.fault.OpenFault.{OpenFault}
use Rattle.wm_faults.specs.declared.fault.OpenFault.TheVariants as faults
use Rattle.wm_journal.specs.Disk.{is_made}
use Rattle.wm_store.specs.Opened.{opened}

-- a fault of the disk and a want of memory say nothing; no store was made; or a test of opening failed, and this one
abbrev pub SaysOf : OpenFault → List ℕ → Type 0
SaysOf faults.Disk file = Unit {0}
SaysOf faults.NotStore file = is_made file ≡ false
SaysOf (faults.Damaged p kind) file = (is_made file ≡ true) × (opened file ≡ Err (p, kind))
SaysOf faults.Memory file = Unit {0}

-- damage is what the pages say when they are opened
abbrev pub FindsIn : {A : Type 0} → OpenFault → Result A (ℕ × Damage) → Type 0
FindsIn faults.Disk pages = Unit {0}
FindsIn faults.NotStore pages = ⊥
FindsIn (faults.Damaged p kind) pages = pages ≡ Err (p, kind)
FindsIn faults.Memory pages = Unit {0}
