use Rattle.wm_append.proofs.DraftLaws.{ids_told}
use Rattle.wm_append.proofs.redraw.begin_key.Goals as goal

pub returns-clause-left : goal.returns-clause-left
returns-clause-left c = ids_told c.args.image.now c.requires c.args.layer c.args.version c.args.cells.now.table c.args.cells.now.key c.ids_in-ids.result.now c.in_ok-left.left.items c.ids_in-ids.ensures c.in_ok-left.ensures
