use Rattle.std.proofs.Common.{refl}
use Rattle.wm_syntax.specs.Views.{item_view, outs_view}
use Rattle.wm_syntax.specs.declared.query.Out.{Out}
use Rattle.wm_query_faults.specs.Items.{unknown_in_item, unknown_in_outs}
use Rattle.wm_typing.proofs.Firsts.{found_here}
use Rattle.wm_query_faults.proofs.items.unknown_in_outs.Goals as goal

pub returns-in-Some : goal.returns-in-Some
returns-in-Some c =
    found_here (λ outs. unknown_in_outs c.args.columns.now c.args.grouped c.args.groups.now (outs_view outs))
    (λ (out : Out). unknown_in_item c.args.columns.now c.args.grouped c.args.groups.now (item_view out.item))
    (λ out rest. unknown_in_outs c.args.columns.now c.args.grouped c.args.groups.now (outs_view rest)) (λ out rest. refl)
    c.args.outs.now c.loop-out.out-index c.out-item.result _ _ c.loop-out-test.true c.out-item.is c.loop-out.invariant c.in-Some.ensures
