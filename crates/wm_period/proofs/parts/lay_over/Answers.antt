use Rattle.wm_period.proofs.Over.{laying_more}
use Rattle.wm_period.proofs.parts.lay_over.Goals as goal

pub loop-piece-preserved : goal.loop-piece-preserved
loop-piece-preserved c = (
  rw (c.in_ok-push.ensures.items, c.till-done.ensures.value)
      (laying_more _ _ _ _ _ _ _ _ _ c.loop-piece.invariant.0 c.loop-piece-test.true c.piece-item.is
      (rw c.from.ensures.value at c.in_ok-rest.ensures.parts) (rw c.from.ensures.value at c.in_ok-rest.ensures.passed)),
  c.in_ok-rest.ensures.place,
)
