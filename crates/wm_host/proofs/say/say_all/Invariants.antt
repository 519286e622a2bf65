use Rattle.std.proofs.Common.{◌≡◌, length}
use Rattle.wm_station.specs.Moments.{During}
use Rattle.wm_host.specs.Crash.{CrashSays}
use Rattle.wm_host.proofs.Saying.{SaidFront}
use Rattle.wm_host.proofs.say.say_all.Given as goal

abbrev pub invariant-loop-rest : goal.invariant-loop-rest
invariant-loop-rest g l = record {
  front : SaidFront g.P.Station.tells (g.P.Station.history l.initial.station) (g.P.Station.history l.station) l.bytes l.rest;
  crash : g.P.Station.tells → During (g.P.Station.history l.initial.station) (g.P.Station.history l.station) (CrashSays (g.P.Station.history l.initial.station) l.bytes);
  kept : g.P.Station.say_faults l.station ≡ g.P.Station.say_faults l.initial.station;
  quiet : g.P.Station.disk_faults l.station ≡ g.P.Station.disk_faults l.initial.station;
}

abbrev pub decreases-loop-rest : goal.decreases-loop-rest
decreases-loop-rest g l = length l.rest
