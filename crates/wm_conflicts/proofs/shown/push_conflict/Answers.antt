use Rattle.std.proofs.Common.{◌++◌, ap, ◌∙◌}
use Rattle.wm_view_rows.specs.Rows.{SideRows, conflict_rows}
use Rattle.wm_conflicts.proofs.Showing.{rows_made}
use Rattle.wm_conflicts.proofs.shown.push_conflict.Goals as goal

pub returns : goal.returns
returns c =
    c.in_ok-conflict_rows.ensures
    ∙ ap (λ (s : SideRows). c.args.rows.now ++ conflict_rows c.args.table.now c.args.conflict.now.key c.args.conflict.now.period c.args.names.parent.now c.args.names.child.now s)
    (rows_made _ _ _ _ _ _ c.values_with.ensures c.values_with-2.ensures c.values_with-3.ensures)
