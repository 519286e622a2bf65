use Rattle.std.proofs.Common.{◌≡◌, ◌≤◌, ◌-◌, ◌^◌}
use Rattle.wm_host.specs.Crash.{Throughout, CrashSound}
use Rattle.wm_host.proofs.Past.{Past}
use Rattle.wm_host.proofs.script.run_script.Given as goal

abbrev pub invariant-pieces : goal.invariant-pieces
invariant-pieces g l = record {
  past : Past g.S.Source.tells g.P.Station.tells (g.S.Source.left l.initial.source) (g.S.Source.left l.source) (g.P.Station.history l.initial.station) (g.P.Station.history l.station) l.initial.host l.host l.taken;
  sound : g.P.Station.tells → Throughout (g.P.Station.history l.initial.station) (g.P.Station.history l.station) CrashSound;
  within : l.taken ≤ 2 ^ 30;
  source_kept : g.S.Source.faults l.source ≡ g.S.Source.faults l.initial.source;
  say_kept : g.P.Station.say_faults l.station ≡ g.P.Station.say_faults l.initial.station;
  disk_kept : g.P.Station.disk_faults l.station ≡ g.P.Station.disk_faults l.initial.station;
}

abbrev pub decreases-pieces : goal.decreases-pieces
decreases-pieces g l = 2 ^ 30 - l.taken
