use Rattle.wm_graph.specs.Parts.{parts_of}
use Rattle.wm_resolve.proofs.Copies.{Lays}
use Rattle.wm_resolve.proofs.copying.copies_on.Given as goal

abbrev pub invariant-loop-piece : goal.invariant-loop-piece
invariant-loop-piece l = Lays (parts_of l.image) l.period.from l.period.till l.pieces l.piece-index l.copies.items
