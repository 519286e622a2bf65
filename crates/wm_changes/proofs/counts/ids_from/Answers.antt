use Rattle.wm_changes.proofs.Placed.{used_up}
use Rattle.wm_changes.proofs.counts.ids_from.Goals as goal

pub returns-then-not-are_ids_left-clause-full : goal.returns-then-not-are_ids_left-clause-full
returns-then-not-are_ids_left-clause-full c = λ fault. used_up c.args.image.now c.in-Some.id c.args.count c.are_ids_left.result c.are_ids_left.ensures c.if-not-are_ids_left.true c.requires c.in-Some.ensures.lowest
