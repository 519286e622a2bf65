use Rattle.wm_ids.specs.Ids.{without}
use Rattle.wm_index.proofs.Changing.{touch_changed}
use Rattle.wm_index.specs.Sought.{TouchesAt}
use Rattle.wm_index.proofs.index.Index.drop_touch.Goals as goal

pub drop_on-requires : goal.drop_on-requires
drop_on-requires c = c.requires (TouchesAt c.args.touch.now.cells.table c.args.touch.now.cells.key)

pub returns-clause-ids : goal.returns-clause-ids
returns-clause-ids c =
    touch_changed (without c.args.id) c.args.self.now c.drop_among.new.map c.drop_at.new.places c.drop_on.new.tables c.args.touch.now c.drop_among.ensures c.drop_at.ensures c.drop_on.ensures
