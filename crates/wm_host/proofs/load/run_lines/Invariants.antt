use Rattle.std.proofs.Common.{◌≡◌, length}
use Rattle.wm_host.specs.Outcome.{load_lines}
use Rattle.wm_host.proofs.Loading.{Progress}
use Rattle.wm_host.proofs.load.run_lines.Given as goal

abbrev pub invariant-lines : goal.invariant-lines
invariant-lines g l = record {
  so_far : Progress g.P.Station.tells (g.P.Station.history l.initial.station) (g.P.Station.history l.station) l.initial.host l.host (load_lines l.seed l.count) l.coming l.tally;
  say_kept : g.P.Station.say_faults l.station ≡ g.P.Station.say_faults l.initial.station;
  disk_kept : g.P.Station.disk_faults l.station ≡ g.P.Station.disk_faults l.initial.station;
}

abbrev pub decreases-lines : goal.decreases-lines
decreases-lines g l = length l.coming
