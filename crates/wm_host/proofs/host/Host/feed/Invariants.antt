use Rattle.std.proofs.Common.{◌≡◌, take}
use Rattle.wm_host.specs.Crash.{Throughout, CrashSound}
use Rattle.wm_host.specs.Hosting.{Says}
use Rattle.wm_host.proofs.Crashing.{EachRuns}
use Rattle.wm_host.proofs.host.Host.feed.Given as goal

abbrev pub invariant-loop-byte : goal.invariant-loop-byte
invariant-loop-byte g l = record {
  says : Says g.P.Station.tells (g.P.Station.history l.initial.station) (g.P.Station.history l.station) l.fn.self (take l.byte-index l.bytes) l.self;
  crash : EachRuns g.P.Station.tells (g.P.Station.history l.initial.station) (g.P.Station.history l.station) l.fn.self (take l.byte-index l.bytes);
  sound : g.P.Station.tells → Throughout (g.P.Station.history l.initial.station) (g.P.Station.history l.station) CrashSound;
  say_kept : g.P.Station.say_faults l.station ≡ g.P.Station.say_faults l.initial.station;
  disk_kept : g.P.Station.disk_faults l.station ≡ g.P.Station.disk_faults l.initial.station;
}
