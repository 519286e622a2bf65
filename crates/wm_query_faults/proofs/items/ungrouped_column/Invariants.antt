use Rattle.std.proofs.Common.{◌≡◌, drop}
use Rattle.wm_query_faults.specs.Items.{ungrouped_column}
use Rattle.wm_query_faults.proofs.items.ungrouped_column.Given as goal

abbrev pub invariant-loop-column : goal.invariant-loop-column
invariant-loop-column l = ungrouped_column l.groups (drop l.column-index l.columns) ≡ ungrouped_column l.groups l.columns
