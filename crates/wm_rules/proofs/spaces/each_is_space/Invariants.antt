use Rattle.std.proofs.Common.{◌≡◌, drop}
use Rattle.std.specs.List.{list_all}
use Rattle.wm_cells.specs.Lookups.{found, referred}
use Rattle.wm_graph.specs.Rules.{is_space}
use Rattle.wm_rules.proofs.spaces.each_is_space.Given as goal

abbrev pub invariant-loop-space : goal.invariant-loop-space
invariant-loop-space l = list_all (is_space (found l.index.entries)) (referred l.spaces) ≡ list_all (is_space (found l.index.entries)) (referred (drop l.space-index l.spaces))
