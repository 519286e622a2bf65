use Rattle.std.proofs.Common.{◌≡◌, ◌++◌, map, take}
use Rattle.wm_decided.specs.Counted.{copies_over, group_in, places_over}
use Rattle.wm_decided.specs.Netted.{entry_copied}
use Rattle.wm_state.specs.Editing.{entry_of}
use Rattle.wm_decided.proofs.netted.push_entries.Given as goal

abbrev pub invariant-loop-piece : goal.invariant-loop-piece
invariant-loop-piece l = map entry_of l.entries.items
    ≡ map entry_of l.fn.entries.items ++ map (entry_copied l.moment l.user (group_in l.key)) (copies_over l.decisions (places_over (take l.piece-index l.pieces)))
