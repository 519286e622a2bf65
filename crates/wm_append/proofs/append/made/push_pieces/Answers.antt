use Rattle.wm_spec.specs.declared.record.Record.TheVariants as records
use Rattle.wm_changes.proofs.Putting.{one_behind}
use Rattle.wm_append.proofs.append.made.push_pieces.Goals as goal

pub loop-piece-preserved : goal.loop-piece-preserved
loop-piece-preserved c = one_behind records.Piece c.args.news.now.items c.loop-piece.yielded c.in-Some.piece c.loop-piece.news.items c.push.new.self.items c.loop-piece.invariant c.in_ok-push.ensures.items
