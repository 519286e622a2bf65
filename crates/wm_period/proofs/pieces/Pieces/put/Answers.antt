use Rattle.std.proofs.Common.{◌≡◌, arith}
use Rattle.std.proofs.lemmas.Grind.{common_steps}
use Rattle.wm_period.proofs.Order.{Between-put, held_at-put}
use Rattle.wm_period.specs.Pieces.{put_in}
use Rattle.wm_period.proofs.pieces.Pieces.put.Goals as goal

pub invariant_of-self : goal.invariant_of-self
invariant_of-self c =
    let made : c.push_parts-2.new.into.items ≡ put_in c.args.piece c.self.inside.list.items = grind (arith, common_steps) in
    rw made (Between-put c.args.piece c.self.inside.list.items c.self.invariant c.from-from.ensures.order c.till-till.ensures.bound)

pub returns-clause-cells : goal.returns-clause-cells
returns-clause-cells c =
    let made : c.push_parts-2.new.into.items ≡ put_in c.args.piece c.self.inside.list.items = grind (arith, common_steps) in
    λ t. rw (made, ← c.self.view_is) (held_at-put c.args.piece c.self.inside.list.items t c.self.invariant c.from-from.ensures.order c.till-till.ensures.bound)
