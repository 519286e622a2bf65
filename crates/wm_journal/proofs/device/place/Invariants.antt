use Rattle.std.proofs.Common.{◌≡◌, drop}
use Rattle.wm_page.specs.Batch.{entries}
use Rattle.wm_journal.specs.Writes.{Did, DidPart, placing}
use Rattle.wm_journal.proofs.device.place.Given as goal

-- what the rest does from here, the whole did from the start
abbrev pub invariant-loop-write : goal.invariant-loop-write
invariant-loop-write g l = record {
  did : g.P.Station.tells → (new : _) → Did (placing (entries (drop l.write-index l.pages))) (g.P.Station.history l.station) new → Did (placing (entries l.pages)) (g.P.Station.history l.initial.station) new;
  part : g.P.Station.tells → (new : _) → DidPart (placing (entries (drop l.write-index l.pages))) (g.P.Station.history l.station) new → DidPart (placing (entries l.pages)) (g.P.Station.history l.initial.station) new;
  disk_quiet : g.P.Station.disk_faults l.station ≡ g.P.Station.disk_faults l.initial.station;
  say_quiet : g.P.Station.say_faults l.station ≡ g.P.Station.say_faults l.initial.station;
}
