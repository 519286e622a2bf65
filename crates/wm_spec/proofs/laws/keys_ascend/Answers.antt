use Rattle.wm_spec.proofs.Keys.{keys-ascend, keys-of_entries}
use Rattle.wm_spec.proofs.laws.keys_ascend.Goals as goal

pub returns-clause-ascend : goal.returns-clause-ascend
returns-clause-ascend c = keys-ascend

pub returns-clause-of_entries : goal.returns-clause-of_entries
returns-clause-of_entries c = keys-of_entries
