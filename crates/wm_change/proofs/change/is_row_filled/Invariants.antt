use Rattle.std.proofs.Common.{◌≡◌, drop}
use Rattle.std.specs.List.{list_all}
use Rattle.wm_making.specs.Rows.{is_filled}
use Rattle.wm_change.proofs.change.is_row_filled.Given as goal

abbrev pub invariant-loop-value : goal.invariant-loop-value
invariant-loop-value l = list_all is_filled l.values ≡ list_all is_filled (drop l.value-index l.values)
