use Rattle.std.proofs.Common.{get_or, refl}
use Rattle.wm_history.proofs.Laying.{put_next, put_none}
use Rattle.wm_history.proofs.dated.put_all_early.Goals as goal

pub loop-id-init : goal.loop-id-init
loop-id-init c = put_none c.args.image.now c.args.date c.args.laid.now.entries

pub loop-id-preserved : goal.loop-id-preserved
loop-id-preserved c =
    put_next c.args.image.now c.args.ids.now c.loop-id.id-index (get_or c.args.ids.now c.loop-id.id-index 0) c.args.date c.args.laid.now.entries c.loop-id.laid.entries c.put_early.new.laid.entries c.loop-id-test.true refl
    c.loop-id.invariant c.in_ok-put_early.ensures
