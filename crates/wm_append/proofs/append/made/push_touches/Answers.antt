use Rattle.wm_changes.proofs.Putting.{touch_behind}
use Rattle.wm_append.proofs.append.made.push_touches.Goals as goal

pub loop-piece-preserved : goal.loop-piece-preserved
loop-piece-preserved c = touch_behind c.args.space c.args.place c.args.news.now.items c.loop-piece.yielded c.in-Some.piece c.loop-piece.news.items c.push.new.self.items c.loop-piece.invariant c.in_ok-push.ensures.items
