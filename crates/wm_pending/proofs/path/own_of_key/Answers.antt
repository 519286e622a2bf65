use Rattle.std.proofs.Common.{sym, ◌∙◌}
use Rattle.wm_graph.specs.Parts.{parts_of}
use Rattle.wm_period.specs.Pieces.{held_at}
use Rattle.wm_telling.specs.Telling.{own_held}
use Rattle.wm_pending.proofs.Above.{own_goes_on}
use Rattle.wm_pending.proofs.OwnPath.{laid_all, laid_more}
use Rattle.wm_pending.proofs.path.own_of_key.Goals as goal

pub loop-version-smaller : goal.loop-version-smaller
loop-version-smaller c = (own_goes_on (parts_of c.args.image.now) c.args.space.now.base_version c.loop-version.number c.in-Some.version c.requires c.in-Some.ensures).1

pub loop-version-preserved : goal.loop-version-preserved
loop-version-preserved c = λ t less.
    laid_more c.args.image.now c.args.space.now c.loop-version.number c.in-Some.version c.pieces_at-ids.result.now (record { table = c.args.table; key = c.args.key.now; time = t })
    (held_at c.loop-version.own t) (held_at c.in_ok-own.own t) (own_held (parts_of c.args.image.now) c.args.space.now (record { table = c.args.table; key = c.args.key.now; time = t }))
    c.requires c.law_of_order.ensures c.in-Some.ensures c.pieces_at-ids.ensures (c.in_ok-own.ensures t less) (c.loop-version.invariant t less)

pub returns : goal.returns
returns c =
    laid_all c.args.image.now c.args.space.now c.loop-version.number c.args.table c.args.key.now c.loop-version.own c.join_same_stamp.new.self c.requires
    (sym c.in_default.is ∙ c.version_above.ensures) c.loop-version.invariant c.join_same_stamp.ensures.cells c.list-order.ensures.in_order c.join_same_stamp.ensures.joined
