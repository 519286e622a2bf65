-- What the answers of opening say of a file.
use Rattle.std.specs.Prelude.{◌≡◌, ℕ, ◌⊎◌, true, false, List, ◌++◌, Some}
use Rattle.wm_faults.specs.declared.fault.OpenFault.{OpenFault}
use Rattle.wm_faults.specs.declared.fault.OpenFault.TheVariants.{Disk, NotStore, Damaged, Memory}
use Rattle.wm_journal.specs.Disk.{is_made, is_open, is_in_order, journal, damage_of}
use Rattle.wm_journal.specs.Writes.{Step, Did, DidPart, gating, placing}
use Rattle.wm_station.specs.History.{History, now}

-- a fault of the disk and a want of memory say nothing of the file
abbrev pub Says : OpenFault → List ℕ → Type 0
Says Disk file = Unit {0}
Says NotStore file = is_made file ≡ false
Says (Damaged p kind) file = (is_made file ≡ true) × (damage_of file ≡ Some (p, kind))
Says Memory file = Unit {0}

-- an answer before which nothing was written: no store, or damage of page 0
abbrev pub IsUntouched : OpenFault → Type 0
IsUntouched Disk = ⊥
IsUntouched NotStore = Unit {0}
IsUntouched (Damaged p kind) = p ≡ 0
IsUntouched Memory = ⊥

-- an answer that says nothing of the file
abbrev pub IsSilent : OpenFault → Type 0
IsSilent Disk = Unit {0}
IsSilent NotStore = ⊥
IsSilent (Damaged p kind) = ⊥
IsSilent Memory = Unit {0}

-- the steps that bring the images of a journal to their places and close it
abbrev pub replaying : List ℕ → List Step
replaying file = placing (journal file) ++ gating 0

-- nothing was done where the gate was closed, or else all of the replay
abbrev pub Repaired : History → History → Type 0
Repaired old new = ((is_open (now old) ≡ false) × (new ≡ old)) ⊎ ((is_open (now old) ≡ true) × (is_in_order (now old) ≡ true) × Did (replaying (now old)) old new)

-- nothing was done, or a part of the replay
abbrev pub RepairedPart : History → History → Type 0
RepairedPart old new = (new ≡ old) ⊎ ((is_open (now old) ≡ true) × (is_in_order (now old) ≡ true) × DidPart (replaying (now old)) old new)
