use Rattle.wm_rows.proofs.Bases.{seen-split}
use Rattle.wm_rows.proofs.laws.what_is_own_lies_over_the_base.Goals as goal

pub returns : goal.returns
returns c = seen-split
