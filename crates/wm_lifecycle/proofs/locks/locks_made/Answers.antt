use Rattle.std.proofs.Common.{◌∙◌}
use Rattle.wm_changes.proofs.Putting.{one_more}
use Rattle.wm_lifecycle.proofs.Locking.{lock_more}
use Rattle.wm_lifecycle.proofs.locks.locks_made.Goals as goal

pub loop-one-preserved : goal.loop-one-preserved
loop-one-preserved c = (
  lock_more c.args.locks.space c.args.place c.args.locks.mode c.args.locks.user c.args.making c.loop-one.making c.loop-one.yielded c.in-Some.one c.in_ok-new.field-0 c.loop-one.news.items c.push.new.self.items c.loop-one.invariant.0 c.loop-one.invariant.1 (c.in_ok-new.ensures ∙ c.in_ok-lock.ensures) c.in_ok-push.ensures.items,
  one_more c.args.making c.loop-one.making c.loop-one.yielded c.in-Some.one c.loop-one.invariant.1,
)
