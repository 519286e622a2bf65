use Rattle.std.proofs.Common.{◌≡◌, ◌++◌, map, take}
use Rattle.wm_decided.specs.Counted.{copies_in, group_in}
use Rattle.wm_decided.specs.Netted.{entry_copied}
use Rattle.wm_state.specs.Editing.{entry_of}
use Rattle.wm_decided.proofs.netted.push_copies.Given as goal

abbrev pub invariant-loop-one : goal.invariant-loop-one
invariant-loop-one l = map entry_of l.entries.items
    ≡ map entry_of l.fn.entries.items ++ map (entry_copied l.moment l.user (group_in l.key)) (copies_in l.piece.period.from l.piece.period.till l.piece.stamp.number (take l.one-index l.copied))
