use Rattle.std.proofs.Common.{◌≡◌, drop}
use Rattle.std.specs.List.{list_all}
use Rattle.wm_cells.specs.Lookups.{found, referred}
use Rattle.wm_graph.specs.Rules.{is_touch}
use Rattle.wm_rules.proofs.traces.each_is_touch.Given as goal

abbrev pub invariant-loop-touch : goal.invariant-loop-touch
invariant-loop-touch l = list_all (is_touch (found l.tables.entries) (found l.spaces.entries)) (referred l.touches) ≡ list_all (is_touch (found l.tables.entries) (found l.spaces.entries)) (referred (drop l.touch-index l.touches))
