use Rattle.wm_rows.proofs.Counting.{uncounting_more}
use Rattle.wm_rows.specs.Maps.{maps_of}
use Rattle.wm_rows.proofs.counts.count_layer_less.Goals as goal

pub loop-row-preserved : goal.loop-row-preserved
loop-row-preserved c =
    uncounting_more (maps_of c.args.counts.now.entries) (maps_of c.loop-row.counts.entries) (maps_of c.count_less.new.counts.entries) c.args.layer.now.entries c.loop-row.row-iterator c.next.new.self c.in-Some.row.now
    c.loop-row.invariant c.in-Some.ensures.steps c.requires.enough c.count_less.ensures
