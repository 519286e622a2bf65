use Rattle.std.proofs.Common.{map, take}
use Rattle.wm_graph.specs.Parts.{parts_of}
use Rattle.wm_net.specs.Conflicts.{grouped, in_table, same_stamps}
use Rattle.wm_net.specs.Listed.{ListsGroups}
use Rattle.wm_telling.specs.Telling.{clash_held}
use Rattle.wm_pending.proofs.Netted.{groups_at}
use Rattle.wm_pending.specs.Clashes.{conflict_pair}
use Rattle.wm_pending.proofs.clash.conflicts.Given as goal

abbrev pub invariant-loop-key : goal.invariant-loop-key
invariant-loop-key l = ListsGroups same_stamps grouped (in_table l.table (clash_held (parts_of l.image) l.space l.parent)) (groups_at (take l.key-index l.own)) (map (conflict_pair l.table) l.found.items)
