use Rattle.std.proofs.Common.{map}
use Rattle.wm_graph.specs.Parts.{parts_of}
use Rattle.wm_net.specs.Listed.{ListsGroups}
use Rattle.wm_state.specs.Editing.{entry_of}
use Rattle.wm_telling.specs.Telling.{gained_held, replayed_by, same_held}
use Rattle.wm_pending.proofs.Keyed.{group_in}
use Rattle.wm_pending.proofs.gained.gained.Given as goal

abbrev pub invariant-loop-table : goal.invariant-loop-table
invariant-loop-table l = ListsGroups same_held (replayed_by (parts_of l.image) l.moment l.user) (gained_held (parts_of l.image) l.space l.parent) (map group_in l.yielded) (map entry_of l.entries.items)
