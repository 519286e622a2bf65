use Rattle.std.proofs.Common.{◌≡◌, drop}
use Rattle.wm_making.specs.Rows.{first_column, lacks_value}
use Rattle.wm_making.proofs.row.first_lacking.Given as goal

abbrev pub invariant-loop-place : goal.invariant-loop-place
invariant-loop-place l = first_column (lacks_value l.table) 0 l.table.columns l.row ≡ first_column (lacks_value l.table) l.place (drop l.place l.table.columns) (drop l.place l.row)
