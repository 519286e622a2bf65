use Rattle.std.proofs.Common.{◌≡◌, ◌++◌, take}
use Rattle.wm_view_rows.proofs.rows.push_copies.Given as goal

abbrev pub invariant-loop-value : goal.invariant-loop-value
invariant-loop-value l = l.values ≡ l.initial.values ++ take l.value-index l.row
