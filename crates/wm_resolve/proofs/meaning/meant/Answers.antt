use Rattle.std.proofs.Common.{ap}
use Rattle.wm_syntax.specs.Views.{filter_view}
use Rattle.wm_resolve.proofs.Keyed.{all_meant}
use Rattle.wm_resolve.proofs.meaning.meant.Goals as goal

pub returns-in-None : goal.returns-in-None
returns-in-None c = all_meant (filter_view c.args.condition.now) c.args.columns.now c.args.found.items (ap filter_view c.in-None.is)
