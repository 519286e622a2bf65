-- What the answers of opening say of what was found.
use Rattle.std.specs.Prelude.{◌≡◌, ℕ, Bool, true, Option, Some}
use Rattle.wm_faults.specs.declared.fault.Damage.{Damage}
use Rattle.wm_faults.specs.declared.fault.Damage.TheVariants as damages
use Rattle.wm_faults.specs.declared.fault.OpenFault.{OpenFault}
use Rattle.wm_faults.specs.declared.fault.OpenFault.TheVariants as opening

-- an answer of opening: damage is what was found, and a store is taken for granted
abbrev pub Finds : OpenFault → Option (ℕ × Damage) → Type 0
Finds opening.Disk found = Unit {0}
Finds opening.NotStore found = ⊥
Finds (opening.Damaged p kind) found = found ≡ Some (p, kind)
Finds opening.Memory found = Unit {0}

-- the same where only an id can be found that stands twice
abbrev pub FindsTwice : OpenFault → ℕ → Bool → Type 0
FindsTwice opening.Disk page twice = ⊥
FindsTwice opening.NotStore page twice = ⊥
FindsTwice (opening.Damaged p kind) page twice = (p ≡ page) × (kind ≡ damages.Twice) × (twice ≡ true)
FindsTwice opening.Memory page twice = Unit {0}
