use Rattle.std.proofs.Common.{◌≡◌, ◌++◌}
use Rattle.wm_append.proofs.redraw.append.Given as goal

abbrev pub invariant-loop-piece : goal.invariant-loop-piece
invariant-loop-piece l = l.pieces.items ≡ l.fn.pieces.items ++ l.yielded
