use Rattle.std.proofs.Common.{◌≡◌, ◌++◌}
use Rattle.wm_index.specs.Sought.{PiecesIn, ids_with, is_sought}
use Rattle.wm_lifecycle.proofs.removals.push_pieces.Given as goal

abbrev pub invariant-loop-piece : goal.invariant-loop-piece
invariant-loop-piece l = l.ids.items ++ l.piece-iterator ≡ l.fn.ids.items ++ ids_with (is_sought (PiecesIn l.version)) l.image
