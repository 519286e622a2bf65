use Rattle.wm_graph.specs.Parts.{parts_of}
use Rattle.wm_resolve.proofs.Copies.{lays_next}
use Rattle.wm_resolve.proofs.copying.copies_on.Goals as goal

pub loop-piece-preserved : goal.loop-piece-preserved
loop-piece-preserved c =
    lays_next (parts_of c.args.image.now) c.args.period.from c.args.period.till c.args.pieces.now c.loop-piece.piece-index c.piece-item.result c.loop-piece.copies.items c.lay.new.copies.items c.loop-piece-test.true c.piece-item.is c.in_ok-lay.ensures
    c.loop-piece.invariant
