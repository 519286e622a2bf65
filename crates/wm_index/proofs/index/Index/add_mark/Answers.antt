use Rattle.wm_index.specs.Sought.{MarksIn, MarksAt}
use Rattle.wm_index.proofs.index.Index.add_mark.Goals as goal

pub add_to-requires : goal.add_to-requires
add_to-requires c = c.requires (MarksIn c.args.mark.now.space)

pub add_on-requires : goal.add_on-requires
add_on-requires c = c.requires (MarksAt c.args.mark.now.cells.table c.args.mark.now.cells.key)
