use Rattle.std.proofs.Common.{◌≡◌, ◌++◌, map, drop}
use Rattle.wm_select.specs.Groups.{value_in}
use Rattle.wm_select.proofs.group_columns.push_values.Given as goal

-- what is added, and what is left to add
abbrev pub invariant-loop-column : goal.invariant-loop-column
invariant-loop-column l = l.values ++ map (value_in l.row) (drop l.column-index l.columns) ≡ l.fn.values ++ map (value_in l.row) l.columns
