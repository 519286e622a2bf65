use Rattle.std.proofs.Common.{◌≡◌, drop}
use Rattle.std.specs.List.{list_all}
use Rattle.wm_cells.specs.Lookups.{found, referred}
use Rattle.wm_graph.specs.Rules.{is_hist}
use Rattle.wm_rules.proofs.hists.each_is_hist.Given as goal

abbrev pub invariant-loop-hist : goal.invariant-loop-hist
invariant-loop-hist l = list_all (is_hist (found l.tables.entries) (found l.spaces.entries) (found l.rows.entries) l.next) (referred l.hists) ≡ list_all (is_hist (found l.tables.entries) (found l.spaces.entries) (found l.rows.entries) l.next) (referred (drop l.hist-index l.hists))
