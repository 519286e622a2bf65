use Rattle.std.proofs.Common.{◌≡◌, map, take, IfSome}
use Rattle.std.specs.List.{filter_map}
use Rattle.wm_decided.specs.Deciding.{decided_on}
use Rattle.wm_graph.specs.Parts.{parts_of}
use Rattle.wm_net.specs.Conflicts.{Sides}
use Rattle.wm_pending.specs.Clashes.{conflict_pair}
use Rattle.wm_resolve.specs.Deciding.{version_kept}
use Rattle.wm_resolve.specs.Shown.{Shows}
use Rattle.wm_resolve.specs.Telling.{TellSides}
use Rattle.wm_resolve.proofs.deciding.decisions_on.Given as goal

abbrev pub invariant-loop-conflict : goal.invariant-loop-conflict
invariant-loop-conflict l =
    ((s : Sides) → TellSides (parts_of l.image) l.deciding.space.now l.deciding.parent.now s
    → l.decisions.items
    ≡ filter_map (decided_on l.deciding.keep s) (map (conflict_pair l.deciding.table.now.number) (take l.conflict-index l.found)))
    × IfSome l.last (Shows (parts_of l.image) (version_kept (parts_of l.image) l.deciding.keep l.deciding.space.now l.deciding.parent.now) l.deciding.table.now.number)
