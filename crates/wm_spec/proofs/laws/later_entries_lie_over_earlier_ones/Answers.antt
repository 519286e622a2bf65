use Rattle.wm_spec.proofs.Lists.{told-append}
use Rattle.wm_spec.proofs.laws.later_entries_lie_over_earlier_ones.Goals as goal

pub returns : goal.returns
returns c = told-append
