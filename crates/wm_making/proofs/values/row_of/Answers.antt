use Rattle.wm_syntax.specs.Views.{exprs_view}
use Rattle.wm_making.proofs.Filled.{row_filled}
use Rattle.wm_making.proofs.values.row_of.Goals as goal

pub returns-clause-filled : goal.returns-clause-filled
returns-clause-filled c = row_filled c.args.table.now c.args.names.now (exprs_view c.args.values.now) c.in_ok-row.row c.in_ok-row.ensures.ok
