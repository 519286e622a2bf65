use Rattle.std.proofs.Common.{◌++◌, ap, ◌∙◌}
use Rattle.wm_lifecycle.proofs.removals.push_pieces.Goals as goal

pub loop-piece-init : goal.loop-piece-init
loop-piece-init c = ap (λ xs. c.args.ids.now.items ++ xs) (c.into_iter-piece-iterator.ensures.into_iter_gives.0 ∙ c.in-Some.ensures)
