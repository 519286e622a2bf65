use Rattle.std.proofs.Common.{◌≡◌, drop}
use Rattle.wm_making.specs.Rows.{heavy_part}
use Rattle.wm_dml.specs.Changing.{first_some}
use Rattle.wm_dml.proofs.faults.first_heavy_part.Given as goal

abbrev pub invariant-loop-row : goal.invariant-loop-row
invariant-loop-row l = first_some (heavy_part l.table) l.rows ≡ first_some (heavy_part l.table) (drop l.row-index l.rows)
