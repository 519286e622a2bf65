-- The ends of a run, and their numbers.
use Rattle.std.specs.Prelude.{ℕ, Result, Ok, Err}
use Rattle.wm_host.specs.declared.stop.Stop.{Stop}
use Rattle.wm_host.specs.declared.stop.Stop.TheVariants as stop
use Rattle.wm_host.specs.declared.ended.Place.{Place}
use Rattle.wm_host.specs.declared.ended.Place.TheVariants.{Nowhere, Page}

-- 0 where nothing stopped the run, or what stopped it
abbrev pub status_of : Result (Unit {0}) Stop → ℕ
status_of (Ok done) = 0
status_of (Err stop.SourceFault) = 3
status_of (Err stop.SayFault) = 4
status_of (Err stop.DiskFault) = 5
status_of (Err stop.NotStore) = 6
status_of (Err (stop.Damaged page kind)) = 7
status_of (Err stop.Exists) = 8
status_of (Err stop.InputLimit) = 9
status_of (Err stop.Memory) = 10
status_of (Err stop.Changed) = 11

-- the page that the first failing test of opening names
abbrev pub place_of : Result (Unit {0}) Stop → Place
place_of (Err (stop.Damaged page kind)) = Page page kind
place_of run = Nowhere
