use Rattle.wm_period.proofs.Order.{Between-behind}
use Rattle.wm_period.specs.Pieces.{EndBy}
use Rattle.wm_period.proofs.pieces.Pieces.push_behind.Goals as goal

pub invariant_of-self-2 : goal.invariant_of-self-2
invariant_of-self-2 c =
    let ended : EndBy c.args.piece.period.from c.self.inside.list.items = rw (c.from.ensures.value, c.list.ensures.value, ← c.self.view_is) at (c.have_ended.ensures.0 c.if-not-have_ended.false) in
    rw c.in_ok-push.ensures.items (Between-behind c.self.inside.list.items c.args.piece c.self.invariant ended c.from.ensures.order c.till-end.ensures.bound)
