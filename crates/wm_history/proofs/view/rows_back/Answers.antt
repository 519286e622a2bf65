use Rattle.wm_history.proofs.Telling.{goes_first, goes_on}
use Rattle.wm_history.proofs.view.rows_back.Goals as goal

pub loop-id-init : goal.loop-id-init
loop-id-init c = goes_first c.args.image.now c.args.space.now.name c.args.table.now c.args.ids.items c.new-later.result.entries c.in_ok-rows.rows.items c.new-later.ensures.empty c.in_ok-rows.ensures.items

pub loop-id-preserved : goal.loop-id-preserved
loop-id-preserved c =
    goes_on c.args.image.now c.args.space.now.name c.args.table.now c.args.ids.items c.loop-id.left.items c.pop.new.self.items c.in-Some.id c.loop-id.later.entries c.push_told.new.later.entries c.loop-id.rows.items
    c.push_told.new.rows.items c.in-Some.ensures.items c.loop-id.invariant c.in_ok-push_told.ensures
