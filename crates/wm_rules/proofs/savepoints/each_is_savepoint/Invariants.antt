use Rattle.std.proofs.Common.{◌≡◌, drop}
use Rattle.std.specs.List.{list_all}
use Rattle.wm_cells.specs.Lookups.{found, referred}
use Rattle.wm_graph.specs.Rules.{is_savepoint}
use Rattle.wm_rules.proofs.savepoints.each_is_savepoint.Given as goal

abbrev pub invariant-loop-savepoint : goal.invariant-loop-savepoint
invariant-loop-savepoint l = list_all (is_savepoint (found l.spaces.entries) (found l.versions.entries) l.work) (referred l.savepoints) ≡ list_all (is_savepoint (found l.spaces.entries) (found l.versions.entries) l.work) (referred (drop l.savepoint-index l.savepoints))
