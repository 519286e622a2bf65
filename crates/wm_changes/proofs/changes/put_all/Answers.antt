use Rattle.wm_changes.proofs.Putting.{one_more, put_more}
use Rattle.wm_changes.proofs.changes.put_all.Goals as goal

pub loop-record-preserved : goal.loop-record-preserved
loop-record-preserved c = (
  put_more c.args.changes.now c.loop-record.changes c.push.new.self c.args.id c.loop-record.id c.loop-record.yielded c.in-Some.record c.put.result c.loop-record.invariant.0 c.loop-record.invariant.1 c.put.ensures c.in_ok-push.ensures.ok,
  one_more c.args.id c.loop-record.id c.loop-record.yielded c.in-Some.record c.loop-record.invariant.1,
)
