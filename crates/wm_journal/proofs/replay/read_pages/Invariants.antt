use Rattle.std.proofs.Common.{◌≡◌, true}
use Rattle.wm_page.specs.Batch.{entries}
use Rattle.wm_station.specs.History.{now}
use Rattle.wm_journal.specs.Disk.{may_name}
use Rattle.wm_journal.proofs.Reading.{Read}
use Rattle.wm_journal.proofs.replay.read_pages.Given as goal

abbrev pub invariant-loop-i : goal.invariant-loop-i
invariant-loop-i g l = record {
  read : g.P.Station.tells → Read (now (g.P.Station.history l.fn.station)) l.header.start l.header.images l.i l.numbers l.images (entries l.pages.items);
  names : may_name l.header.start (entries l.pages.items) ≡ true;
  told : g.P.Station.tells → g.P.Station.history l.station ≡ g.P.Station.history l.fn.station;
  disk_quiet : g.P.Station.disk_faults l.station ≡ g.P.Station.disk_faults l.fn.station;
  say_quiet : g.P.Station.say_faults l.station ≡ g.P.Station.say_faults l.fn.station;
}
