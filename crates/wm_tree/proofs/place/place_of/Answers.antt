use Rattle.std.proofs.Common.{arith}
use Rattle.wm_tree.proofs.Placing.{halving_right_at, halving_left_at}
use Rattle.wm_tree.proofs.place.place_of.Goals as goal

pub loop-low-preserved-then-versions-middle : goal.loop-low-preserved-then-versions-middle
loop-low-preserved-then-versions-middle c =
    halving_right_at _ _ _ _ _ _ c.requires c.loop-low.invariant (omega arith) (omega (arith, c.loop-low-test.true)) c.if-versions-middle.true

pub loop-low-preserved : goal.loop-low-preserved
loop-low-preserved c =
    halving_left_at _ _ _ _ _ _ c.requires c.loop-low.invariant (omega arith) (omega (arith, c.loop-low-test.true)) c.if-versions-middle.false
