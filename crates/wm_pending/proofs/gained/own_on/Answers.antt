use Rattle.std.proofs.Common.{◌∙◌}
use Rattle.wm_net.specs.Groups.{Group}
use Rattle.wm_pending.proofs.Looking.{pieces_at, pieces_none}
use Rattle.wm_pending.proofs.gained.own_on.Goals as goal

pub returns-in-Some : goal.returns-in-Some
returns-in-Some c =
    let g : Group = record { table = c.args.table; key = c.args.key.now } in
    c.list.ensures.value
    ∙ pieces_at c.args.own.now g c.in-Some.place c.index-own-place.result c.requires c.in-Some.ensures.there.0 (c.in-Some.ensures.there.1 c.index-own-place.result)

pub returns-in-None : goal.returns-in-None
returns-in-None c =
    let g : Group = record { table = c.args.table; key = c.args.key.now } in
    pieces_none c.args.own.now g c.in-None.ensures.none
