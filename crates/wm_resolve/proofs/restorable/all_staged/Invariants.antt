use Rattle.std.proofs.Common.{◌≡◌, drop}
use Rattle.std.specs.List.{list_all}
use Rattle.wm_graph.specs.Parts.{parts_of}
use Rattle.wm_resolve.specs.Restoring.{is_staged}
use Rattle.wm_resolve.proofs.restorable.all_staged.Given as goal

abbrev pub invariant-loop-decision : goal.invariant-loop-decision
invariant-loop-decision l = list_all (is_staged (parts_of l.image) l.next) (drop l.decision-index l.decisions) ≡ list_all (is_staged (parts_of l.image) l.next) l.decisions
