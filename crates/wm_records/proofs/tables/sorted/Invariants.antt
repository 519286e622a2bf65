use Rattle.std.proofs.Common.{◌≡◌, vec_len}
use Rattle.wm_state.specs.Standing.{by_number}
use Rattle.wm_records.proofs.Cataloguing.{placing}
use Rattle.wm_records.proofs.tables.sorted.Given as goal

abbrev pub invariant-loop-table : goal.invariant-loop-table
invariant-loop-table l = placing l.left.items l.sorted.items ≡ by_number l.fn.tables.items

abbrev pub decreases-loop-table : goal.decreases-loop-table
decreases-loop-table l = vec_len l.left
