use Rattle.std.proofs.Common.{◌≡◌, drop}
use Rattle.wm_making.specs.Rows.{first_column, lacks_value}
use Rattle.wm_dml.specs.Changing.{first_some}
use Rattle.wm_dml.proofs.faults.lacking.Given as goal

abbrev pub invariant-loop-row : goal.invariant-loop-row
invariant-loop-row l =
    first_some (λ row. first_column (lacks_value l.table) 0 l.table.columns row) l.rows ≡ first_some (λ row. first_column (lacks_value l.table) 0 l.table.columns row) (drop l.row-index l.rows)
