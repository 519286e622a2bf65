use Rattle.std.proofs.Common.{◌≡◌, ◌++◌, take}
use Rattle.wm_period.specs.Pieces.{parts_in}
use Rattle.wm_period.proofs.parts.push_parts.Given as goal

abbrev pub invariant-loop-piece : goal.invariant-loop-piece
invariant-loop-piece l = l.into.items ≡ l.initial.into.items ++ parts_in l.from l.till (take l.piece-index l.list)
