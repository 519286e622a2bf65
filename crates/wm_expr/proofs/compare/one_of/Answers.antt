use Rattle.wm_expr.proofs.Logic.{one_of_next}
use Rattle.wm_expr.specs.Seen.{seen_value}
use Rattle.wm_expr.proofs.compare.one_of.Goals as goal

pub loop-constant-preserved : goal.loop-constant-preserved
loop-constant-preserved c =
    one_of_next (seen_value c.args.value) c.args.list.now c.loop-constant.constant-index c.constant-item.result _ _ _ _
    c.loop-constant-test.true c.loop-constant.invariant c.constant-item.is c.constant_seen.ensures c.test.ensures c.or-truth.ensures
