-- Which calls of a station are to fail.
use Rattle.std.specs.Prelude.{◌≡◌, ℕ, ◌+◌, ◌-◌, ◌<◌, Contains, Result, IsErrOf}
use Rattle.wm_station.specs.declared.failing.Failing.{Failing}
use Rattle.wm_station.specs.declared.failing.Faults.{Faults}
use Rattle.wm_station.specs.declared.memory_source.MemorySource.{MemorySource}
use Rattle.wm_station.specs.declared.memory_station.MemoryStation.{MemoryStation}

-- so many calls from now on, one is to fail
abbrev pub FailsIn : Failing → ℕ → Type 0
FailsIn calls n = Contains calls.numbers.items (calls.made + n)

-- the next call is to fail
abbrev pub FailsNext : Failing → Type 0
FailsNext calls = FailsIn calls 0

-- none is
abbrev pub NeverFails : Failing → Type 0
NeverFails calls = (n : ℕ) → FailsIn calls n → ⊥

-- those of a station
abbrev pub faults_of : MemoryStation → Faults
faults_of s = s.faults

-- those of a source
abbrev pub calls_of : MemorySource → Failing
calls_of s = s.calls

-- a call before a fuse uses up one of those left; where none is left it fails, and then alone it is counted as blown
pub record Burns {T E : Type 0} (left after blown count : ℕ) (result : Result T E) (failed : E) : Type 0 where
  pub used : after ≡ left - 1
  pub blows : left ≡ 0 → IsErrOf result failed
  pub passes : 0 < left → count ≡ blown
