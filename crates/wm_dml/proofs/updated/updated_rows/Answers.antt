use Rattle.wm_syntax.specs.Views.{sets_view}
use Rattle.wm_dml.proofs.Changed.{made_as_many}
use Rattle.wm_dml.proofs.updated.updated_rows.Goals as goal

pub returns-clause-as_many : goal.returns-clause-as_many
returns-clause-as_many c = made_as_many c.args.table.now (sets_view c.args.sets.now) c.args.rows.now c.in_ok-made.made.items c.in_ok-made.ensures.ok
