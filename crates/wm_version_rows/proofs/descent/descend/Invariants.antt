use Rattle.std.proofs.Common.{◌≡◌, ◌≤◌, ℕ, nat_eq}
use Rattle.std.specs.List.{list_any}
use Rattle.wm_graph.specs.Parts.{parts_of}
use Rattle.wm_state.specs.Standing.{newest_first}
use Rattle.wm_tree.specs.Versions.{path_in}
use Rattle.wm_version_rows.proofs.descent.descend.Given as goal

abbrev pub invariant-loop-number : goal.invariant-loop-number
invariant-loop-number l = (v : ℕ) → v ≤ l.version
    → list_any (nat_eq v) (path_in (newest_first (parts_of l.image).versions) l.number) ≡ list_any (nat_eq v) (path_in (newest_first (parts_of l.image).versions) l.from)

abbrev pub decreases-loop-number : goal.decreases-loop-number
decreases-loop-number l = l.number
