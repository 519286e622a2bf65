use Rattle.std.proofs.Common.{◌≡◌, drop}
use Rattle.std.specs.List.{list_all}
use Rattle.wm_cells.specs.Lookups.{found, referred}
use Rattle.wm_graph.specs.Rules.{is_version}
use Rattle.wm_rules.proofs.versions.each_is_version.Given as goal

abbrev pub invariant-loop-version : goal.invariant-loop-version
invariant-loop-version l = list_all (is_version (found l.spaces.entries) (found l.index.entries) l.next) (referred l.versions) ≡ list_all (is_version (found l.spaces.entries) (found l.index.entries) l.next) (referred (drop l.version-index l.versions))
