use Rattle.std.proofs.Common.{◌≡◌, arith}
use Rattle.wm_graph.specs.Parts.{parts_of}
use Rattle.wm_pending.proofs.Conflicting.{told_block}
use Rattle.wm_pending.proofs.clash.push_conflicts.Goals as goal

pub returns : goal.returns
returns c =
    let table : c.args.own.now.table ≡ c.args.table = omega (arith, c.if-own-table.false) in
    told_block (parts_of c.args.image.now) c.args.asked c.args.own.now c.in_ok-sides.sides c.args.table c.args.found.now.items c.push_stretches-pushed.new.found.items table c.in_ok-sides.ensures
    c.in_ok-pushed.ensures
