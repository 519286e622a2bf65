use Rattle.std.proofs.Common.{◌≡◌, drop}
use Rattle.std.specs.BTreeSet.{contains}
use Rattle.std.specs.List.{list_all}
use Rattle.std.specs.Ordering.{nat_cmp}
use Rattle.wm_cells.specs.Lookups.{found, referred}
use Rattle.wm_graph.specs.Rules.{has_versions}
use Rattle.wm_rules.proofs.versions.each_has_versions.Given as goal

abbrev pub invariant-loop-space : goal.invariant-loop-space
invariant-loop-space l = list_all (has_versions (contains nat_cmp l.having) (found l.versions.entries)) (referred l.spaces) ≡ list_all (has_versions (contains nat_cmp l.having) (found l.versions.entries)) (referred (drop l.space-index l.spaces))
