use Rattle.wm_spec.proofs.Lists.{told-push}
use Rattle.wm_spec.proofs.laws.an_entry_changes_its_own_cells.Goals as goal

pub returns : goal.returns
returns c = told-push
