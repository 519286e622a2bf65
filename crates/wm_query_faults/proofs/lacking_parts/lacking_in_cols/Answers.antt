use Rattle.std.proofs.Common.{refl}
use Rattle.wm_query_faults.specs.Lacking.{lacking_in_cols}
use Rattle.wm_typing.specs.Lacking.{lacking_col}
use Rattle.wm_typing.proofs.Firsts.{found_here}
use Rattle.wm_query_faults.proofs.lacking_parts.lacking_in_cols.Goals as goal

pub returns-in-Some : goal.returns-in-Some
returns-in-Some c =
    found_here (λ cols. lacking_in_cols c.args.columns.now cols) (λ col. lacking_col c.args.columns.now col)
    (λ col rest. lacking_in_cols c.args.columns.now rest) (λ col rest. refl)
    c.args.cols.now c.loop-col.col-index c.col-item.result _ _ c.loop-col-test.true c.col-item.is c.loop-col.invariant c.in-Some.ensures
