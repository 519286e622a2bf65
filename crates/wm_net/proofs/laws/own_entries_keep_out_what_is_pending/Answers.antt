use Rattle.wm_net.proofs.Netting.{gained_is, gained_listed}
use Rattle.wm_net.proofs.laws.own_entries_keep_out_what_is_pending.Goals as goal

pub returns-clause-held : goal.returns-clause-held
returns-clause-held c = gained_is

pub returns-clause-only : goal.returns-clause-only
returns-clause-only c = gained_listed
