use Rattle.std.proofs.Common.{◌≡◌}
use Rattle.wm_graph.specs.Parts.{parts_of}
use Rattle.wm_state.specs.Standing.{first_in, newest_first}
use Rattle.wm_differences.proofs.points.first_on_path.Given as goal

abbrev pub invariant-loop-found : goal.invariant-loop-found
invariant-loop-found l = first_in (newest_first (parts_of l.image).versions) l.space l.number ≡ first_in (newest_first (parts_of l.image).versions) l.space l.version

abbrev pub decreases-loop-found : goal.decreases-loop-found
decreases-loop-found l = l.number
