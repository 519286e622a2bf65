use Rattle.std.proofs.Common.{subst}
use Rattle.wm_records.proofs.Listed.{Ascend-listed}
use Rattle.wm_state.specs.ById.{Ascend}
use Rattle.wm_image.proofs.image.Image.law_of_order.Goals as goal

pub returns : goal.returns
returns c = subst Ascend c.self.view_is (Ascend-listed c.self.inside.kept.entries c.self.invariant.0.ordered)
