use Rattle.wm_dml.proofs.Moves.{past_front}
use Rattle.wm_dml.proofs.moving.earliest_clash.Goals as goal

pub loop-left-preserved : goal.loop-left-preserved
loop-left-preserved c =
    let e = past_front c.loop-left.best c.args.stay.now c.loop-left.left.now c.period-item.result c.in-len1-up.len_at_least c.period-item.is in
    cc
