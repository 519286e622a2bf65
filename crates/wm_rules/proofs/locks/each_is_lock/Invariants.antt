use Rattle.std.proofs.Common.{◌≡◌, drop}
use Rattle.std.specs.List.{list_all}
use Rattle.wm_cells.specs.Lookups.{found, referred}
use Rattle.wm_graph.specs.Rules.{is_lock}
use Rattle.wm_rules.proofs.locks.each_is_lock.Given as goal

abbrev pub invariant-loop-lock : goal.invariant-loop-lock
invariant-loop-lock l = list_all (is_lock (found l.tables.entries) (found l.spaces.entries) l.work) (referred l.locks) ≡ list_all (is_lock (found l.tables.entries) (found l.spaces.entries) l.work) (referred (drop l.lock-index l.locks))
