use Rattle.std.proofs.Common.{◌≡◌, ◌++◌, map, take}
use Rattle.wm_graph.specs.Parts.{parts_of}
use Rattle.wm_pending.specs.Owned.{key_pieces}
use Rattle.wm_pending.specs.Replayed.{as_stretches}
use Rattle.wm_state.specs.Editing.{entry_of}
use Rattle.wm_telling.specs.Telling.{group_at, replayed_by}
use Rattle.wm_pending.proofs.entries.push_entries.Given as goal

abbrev pub invariant-loop-piece : goal.invariant-loop-piece
invariant-loop-piece l = map entry_of l.entries.items
    ≡ map entry_of l.fn.entries.items ++ map (replayed_by (parts_of l.image) l.moment l.user (group_at (key_pieces l.key))) (as_stretches (take l.piece-index l.piece-items))
