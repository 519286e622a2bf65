use Rattle.std.proofs.Common.{refl}
use Rattle.wm_graph.specs.Parts.{parts_of}
use Rattle.wm_change.proofs.MovedRows.{finds_here, finds_none, finds_on, none_behind, none_before}
use Rattle.wm_change.proofs.moving.first_clash.Goals as goal

pub loop-left-init : goal.loop-left-init
loop-left-init c = (λ es holds. refl, none_before (parts_of c.args.image.now) c.args.version c.args.table.now c.args.moves.now)

pub returns-in-Some : goal.returns-in-Some
returns-in-Some c =
    finds_here (parts_of c.args.image.now) c.args.version c.args.table.now c.args.moves.now c.loop-left.left.now c.one-item.result c.in_ok-shared.field-0 c.in_ok-copy.field-0 c.in-Some.shared c.loop-left.invariant.0 c.in-len1-up.len_at_least c.one-item.is
    (c.in_ok-shared.ensures c.args.moves.now c.one-item.result c.requires.shifts c.loop-left.invariant.1 refl) c.in-Some.is c.in_ok-copy.ensures

pub loop-left-preserved : goal.loop-left-preserved
loop-left-preserved c = (
  finds_on (parts_of c.args.image.now) c.args.version c.args.table.now c.args.moves.now c.loop-left.left.now c.one-item.result c.in_ok-shared.field-0 c.loop-left.invariant.0 c.in-len1-up.len_at_least c.one-item.is
      (c.in_ok-shared.ensures c.args.moves.now c.one-item.result c.requires.shifts c.loop-left.invariant.1 refl) c.in_default-2.is,
  none_behind (parts_of c.args.image.now) c.args.version c.args.table.now c.args.moves.now c.one-item.result.key c.in_ok-shared.field-0
      (λ m same. c.in_ok-shared.ensures c.args.moves.now m c.requires.shifts c.loop-left.invariant.1 same) c.in_default-2.is,
)

pub returns : goal.returns
returns c = finds_none (parts_of c.args.image.now) c.args.version c.args.table.now c.args.moves.now c.loop-left.left.now c.loop-left.invariant.0 c.in_default.len_below
