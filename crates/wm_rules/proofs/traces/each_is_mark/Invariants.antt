use Rattle.std.proofs.Common.{◌≡◌, drop}
use Rattle.std.specs.List.{list_all}
use Rattle.wm_cells.specs.Lookups.{found, referred}
use Rattle.wm_graph.specs.Rules.{is_trace}
use Rattle.wm_rules.proofs.traces.each_is_mark.Given as goal

abbrev pub invariant-loop-mark : goal.invariant-loop-mark
invariant-loop-mark l = list_all (is_trace (found l.tables.entries) (found l.spaces.entries)) (referred l.marks) ≡ list_all (is_trace (found l.tables.entries) (found l.spaces.entries)) (referred (drop l.mark-index l.marks))
