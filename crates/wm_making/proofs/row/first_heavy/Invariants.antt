use Rattle.std.proofs.Common.{◌≡◌, drop}
use Rattle.wm_making.specs.Rows.{first_column, is_heavy}
use Rattle.wm_making.proofs.row.first_heavy.Given as goal

abbrev pub invariant-loop-place : goal.invariant-loop-place
invariant-loop-place l = first_column (is_heavy l.table) 0 l.table.columns l.row ≡ first_column (is_heavy l.table) l.place (drop l.place l.table.columns) (drop l.place l.row)
