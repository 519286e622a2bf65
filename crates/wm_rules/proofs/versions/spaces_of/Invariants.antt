use Rattle.std.proofs.Common.{◌≡◌, ℕ, take}
use Rattle.std.specs.BTreeSet.{contains}
use Rattle.std.specs.Ordering.{nat_cmp}
use Rattle.wm_cells.specs.Lookups.{referred}
use Rattle.wm_graph.specs.Parts.{has_version}
use Rattle.wm_rules.proofs.versions.spaces_of.Given as goal

abbrev pub invariant-loop-version : goal.invariant-loop-version
invariant-loop-version l = (n : ℕ) → contains nat_cmp l.spaces n ≡ has_version (referred (take l.version-index l.versions)) n
