-- What a function that writes does.
use Rattle.std.specs.Prelude.{◌≡◌, ℕ, List, ◌++◌}
use Rattle.std.specs.List.{flat_map, AllByRecursion}
use Rattle.wm_spec.specs.declared.record.Record.{Record}
use Rattle.wm_codec.specs.Format.{Format}
use Rattle.wm_codec.specs.Spelling.{spelling, HasSpelling}

-- new is old with the spelling of the value behind it, and the value has one
pub record Appends {A : Type 0} (format : Format A) (old new : List ℕ) (it : A) : Type 0 where
  pub is : new ≡ old ++ format.spell it
  pub fits : format.Fits it

-- new is old with the spellings of the values behind it, one behind the other
pub record AppendsEach {A : Type 0} (format : Format A) (old new : List ℕ) (xs : List A) : Type 0 where
  pub is : new ≡ old ++ flat_map format.spell xs
  pub fits : AllByRecursion format.Fits xs

-- new is old with the spelling of the record behind it
pub record AppendsRecord (old new : List ℕ) (it : Record) : Type 0 where
  pub is : new ≡ old ++ spelling it
  pub fits : HasSpelling it
