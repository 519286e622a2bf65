use Rattle.std.proofs.Common.{arith}
use Rattle.wm_version_rows.proofs.Along.{reaches_on}
use Rattle.wm_version_rows.proofs.laying.covered_till.Goals as goal

pub loop-piece-preserved : goal.loop-piece-preserved
loop-piece-preserved c =
    reaches_on c.args.pieces.now c.loop-piece.piece-index c.args.from c.loop-piece.reached c.max-reached.result c.piece-item.result c.loop-piece-test.true c.piece-item.is
    (let begun = c.if-reached-seconds.false in let from = c.seconds.ensures.value in let is = c.from.ensures.value in omega (arith, begun, from, is))
    (let most = c.max-reached.ensures in let till = c.seconds-in-loop-piece.ensures.value in let is = c.till.ensures.value in grind (arith, most, till, is))
    c.loop-piece.invariant
