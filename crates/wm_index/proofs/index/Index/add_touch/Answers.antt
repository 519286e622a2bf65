use Rattle.std.proofs.lemmas.Result.{on_ok_weaker}
use Rattle.wm_ids.specs.Ids.{placed}
use Rattle.wm_index.proofs.Changing.{touch_changed}
use Rattle.wm_index.specs.Sought.{TouchesAt}
use Rattle.wm_index.proofs.index.Index.add_touch.Goals as goal

pub add_on-requires : goal.add_on-requires
add_on-requires c = c.requires (TouchesAt c.args.touch.now.cells.table c.args.touch.now.cells.key)

pub returns-clause-ids : goal.returns-clause-ids
returns-clause-ids c =
    on_ok_weaker c.add_on.result
    (touch_changed (placed c.args.id) c.args.self.now c.add_among.new.map c.add_at.new.places c.add_on.new.tables c.args.touch.now c.in_ok-add_among.ensures c.in_ok-add_at.ensures)
    c.add_on.ensures
