use Rattle.wm_index.specs.Sought.{MarksIn, MarksAt}
use Rattle.wm_index.proofs.index.Index.drop_mark.Goals as goal

pub drop_from-requires : goal.drop_from-requires
drop_from-requires c = c.requires (MarksIn c.args.mark.now.space)

pub drop_on-requires : goal.drop_on-requires
drop_on-requires c = c.requires (MarksAt c.args.mark.now.cells.table c.args.mark.now.cells.key)
