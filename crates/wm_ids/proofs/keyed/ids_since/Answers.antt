use Rattle.std.proofs.Common.{◌∙◌}
use Rattle.wm_ids.proofs.Since.{ahead_first, ahead_more, ahead_other}
use Rattle.wm_ids.specs.Ids.{ids_since}
use Rattle.wm_ids.proofs.keyed.ids_since.Goals as goal

pub loop-place-init : goal.loop-place-init
loop-place-init c =
    ahead_first c.args.space c.args.from c.args.places.now.keys c.into_iter-place-iterator.result c.new-ids.result.items c.range-place-items.ensures.ordered
    (c.into_iter-place-iterator.ensures.into_iter_gives ∙ c.range-place-items.ensures.between tt)
    c.new-ids.ensures.items

pub returns-then-place-space : goal.returns-then-place-space
returns-then-place-space c =
    ahead_other c.args.space c.in-Some.place.now c.loop-place.place-iterator c.next.new.self c.loop-place.ids.items (ids_since c.args.places.now.keys c.args.space c.args.from) c.loop-place.invariant c.in-Some.ensures.steps c.if-place-space.true

pub loop-place-preserved : goal.loop-place-preserved
loop-place-preserved c =
    ahead_more c.args.space c.in-Some.place.now c.loop-place.place-iterator c.next.new.self c.loop-place.ids.items c.push.new.self.items (ids_since c.args.places.now.keys c.args.space c.args.from) c.loop-place.invariant
    c.in-Some.ensures.steps c.if-place-space.false c.in_ok-push.ensures.items
