use Rattle.std.proofs.Common.{refl}
use Rattle.wm_query_faults.specs.Items.{unknown_in_cols}
use Rattle.wm_typing.specs.Names.{unknown_col}
use Rattle.wm_typing.proofs.Firsts.{found_here}
use Rattle.wm_query_faults.proofs.items.unknown_in_cols.Goals as goal

pub returns-in-Some : goal.returns-in-Some
returns-in-Some c =
    found_here (λ cols. unknown_in_cols c.args.columns.now cols) (λ col. unknown_col c.args.columns.now col)
    (λ col rest. unknown_in_cols c.args.columns.now rest) (λ col rest. refl)
    c.args.cols.now c.loop-col.col-index c.col-item.result _ _ c.loop-col-test.true c.col-item.is c.loop-col.invariant c.in-Some.ensures
