use Rattle.std.proofs.Common.{subst}
use Rattle.wm_records.proofs.Listed.{Ascend-listed}
use Rattle.wm_state.specs.ById.{Ascend}
use Rattle.wm_image.proofs.image.Image.next_id.Goals as goal

pub returns-clause-ascend : goal.returns-clause-ascend
returns-clause-ascend c = subst Ascend c.self.view_is (Ascend-listed c.self.inside.kept.entries c.self.invariant.0.ordered)
