use Rattle.std.proofs.Common.{◌≡◌, ◌++◌, map, take}
use Rattle.wm_rows.specs.Own.{own_piece}
use Rattle.wm_rows.proofs.own.push_pieces.Given as goal

abbrev pub invariant-loop-piece : goal.invariant-loop-piece
invariant-loop-piece l = l.list.items ≡ l.initial.list.items ++ map (own_piece l.row) (take l.piece-index l.piece-items)
