use Rattle.std.proofs.Common.{◌≡◌, drop}
use Rattle.std.specs.List.{list_all}
use Rattle.wm_graph.specs.Parts.{parts_of}
use Rattle.wm_resolve.specs.Restoring.{is_restored}
use Rattle.wm_resolve.proofs.restorable.are_restored.Given as goal

abbrev pub invariant-loop-copied : goal.invariant-loop-copied
invariant-loop-copied l =
    list_all (is_restored (parts_of l.image) l.next l.table l.decision.table l.decision.key) (drop l.copied-index l.copied-items)
    ≡ list_all (is_restored (parts_of l.image) l.next l.table l.decision.table l.decision.key) l.decision.copied
