use Rattle.std.proofs.Common.{ap, ◌∙◌}
use Rattle.wm_guard.specs.Orders.{nows}
use Rattle.wm_syntax.specs.Views.{filter_view}
use Rattle.std.proofs.lemmas.Result.{IfOk-weaker}
use Rattle.wm_locking.proofs.Unlocking.{all_meant}
use Rattle.wm_locking.proofs.unlock_rows.makings_meant.Goals as goal

pub returns-in-None : goal.returns-in-None
returns-in-None c = IfOk-weaker c.makings_of.result _ _ (λ makings told. told ∙ all_meant (filter_view c.args.condition.now) c.args.columns.now (nows c.args.locks.now) (ap filter_view c.in-None.is)) c.makings_of.ensures
