use Rattle.std.proofs.Common.{length}
use Rattle.std.specs.Option.{option_copied}
use Rattle.wm_graph.specs.Parts.{parts_of}
use Rattle.wm_change.proofs.MovedRows.{FindsLeft}
use Rattle.wm_change.specs.Moved.{NoneAt}
use Rattle.wm_change.proofs.moving.first_clash.Given as goal

abbrev pub invariant-loop-left : goal.invariant-loop-left
invariant-loop-left l = FindsLeft (parts_of l.image) l.version l.table l.moves l.left × NoneAt (parts_of l.image) l.version l.table l.moves (option_copied l.last)

abbrev pub decreases-loop-left : goal.decreases-loop-left
decreases-loop-left l = length l.left
