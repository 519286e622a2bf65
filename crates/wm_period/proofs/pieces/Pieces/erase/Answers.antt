use Rattle.std.proofs.Common.{◌≡◌, arith}
use Rattle.std.proofs.lemmas.Grind.{common_steps}
use Rattle.wm_period.proofs.Order.{Between-erase, held_at-erase}
use Rattle.wm_period.specs.Pieces.{erase_in}
use Rattle.wm_period.proofs.pieces.Pieces.erase.Goals as goal

pub invariant_of-self : goal.invariant_of-self
invariant_of-self c =
    let made : c.push_parts-2.new.into.items ≡ erase_in c.args.period.now c.self.inside.list.items = grind (arith, common_steps) in
    rw made (Between-erase c.args.period.now c.self.inside.list.items c.self.invariant c.from-from.ensures.order c.till-till.ensures.bound)

pub returns-clause-cells : goal.returns-clause-cells
returns-clause-cells c =
    let made : c.push_parts-2.new.into.items ≡ erase_in c.args.period.now c.self.inside.list.items = grind (arith, common_steps) in
    λ t. rw (made, ← c.self.view_is) (held_at-erase c.args.period.now c.self.inside.list.items t c.self.invariant c.from-from.ensures.order c.till-till.ensures.bound)
