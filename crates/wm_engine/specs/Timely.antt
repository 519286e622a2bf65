-- Lines that set no moment past the last one.
use Rattle.std.specs.Prelude.{◌<◌}
use Rattle.wm_syntax.specs.Trees.{Line, At}
use Rattle.wm_base.specs.declared.instant.TheConstants.{END}

-- the moment of AT is below the end
abbrev pub IsTimely : Line → Type 0
IsTimely (At instant) = instant < END
IsTimely _ = Unit {0}
