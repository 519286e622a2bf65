use Rattle.std.proofs.Common.{◌+◌, drop, arith}
use Rattle.std.proofs.lemmas.Grind.{common_steps}
use Rattle.wm_dml.proofs.Moves.{staying_on}
use Rattle.wm_dml.proofs.moving.staying_spans.Goals as goal

pub loop-span-preserved : goal.loop-span-preserved
loop-span-preserved c =
    let e = staying_on c.args.shifts.now c.span-item.result (drop (c.loop-span.span-index + 1) c.args.spans.now) in
    grind (arith, common_steps)
