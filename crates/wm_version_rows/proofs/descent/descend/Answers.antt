use Rattle.std.proofs.Common.{◌∙◌}
use Rattle.wm_version_rows.proofs.descent.descend.Goals as goal

pub loop-number-preserved : goal.loop-number-preserved
loop-number-preserved c = λ v low. c.step_down-number.ensures.path v low ∙ c.loop-number.invariant v low
