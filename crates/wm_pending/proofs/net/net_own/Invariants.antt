use Rattle.std.proofs.Common.{map, take}
use Rattle.wm_graph.specs.Parts.{parts_of}
use Rattle.wm_net.specs.Listed.{ListsGroups}
use Rattle.wm_pending.specs.Owned.{key_pieces}
use Rattle.wm_state.specs.Editing.{entry_of}
use Rattle.wm_telling.specs.Telling.{group_at, own_held, replayed_by, same_held}
use Rattle.wm_pending.proofs.net.net_own.Given as goal

abbrev pub invariant-loop-key : goal.invariant-loop-key
invariant-loop-key l = ListsGroups same_held (replayed_by (parts_of l.image) l.moment l.user) (own_held (parts_of l.image) l.space) (map group_at (map key_pieces (take l.key-index l.own)))
    (map entry_of l.entries.items)
