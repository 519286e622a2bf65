use Rattle.std.proofs.Common.{◌≡◌, ◌+◌}
use Rattle.wm_tree.specs.Versions.{newest_first, path_in, shared_of}
use Rattle.wm_tree.proofs.tree.common_of.Given as goal

abbrev pub invariant-loop-v : goal.invariant-loop-v
invariant-loop-v l =
    shared_of (path_in (newest_first l.versions) l.v) (path_in (newest_first l.versions) l.w)
    ≡ shared_of (path_in (newest_first l.versions) l.initial.v) (path_in (newest_first l.versions) l.initial.w)

abbrev pub decreases-loop-v : goal.decreases-loop-v
decreases-loop-v l = l.v + l.w
