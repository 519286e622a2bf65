use Rattle.std.specs.Map.{keys_of}
use Rattle.wm_select.proofs.GroupLemmas.{ascend_apart}
use Rattle.wm_select.proofs.group.sort_groups.Goals as goal

pub returns-clause-ordered : goal.returns-clause-ordered
returns-clause-ordered c = ascend_apart (keys_of c.sort_keys.new.self.entries) c.in_ok-sort_keys.ensures.sorted c.sort_keys.ensures.unique
