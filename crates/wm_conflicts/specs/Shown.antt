-- The rows of one stretch of conflict.
use Rattle.std.specs.Prelude.{ℕ, List}
use Rattle.wm_base.specs.declared.row.Row.{Row}
use Rattle.wm_graph.specs.Parts.{Parts}
use Rattle.wm_pending.specs.Sides.{stamps_in}
use Rattle.wm_pending.specs.declared.clash.Conflict.{Conflict}
use Rattle.wm_spec.specs.declared.record.table.Table.{Table}
use Rattle.wm_view_rows.specs.Conflicts.{rows_with}
use Rattle.wm_view_rows.specs.Rows.{conflict_rows}

-- under the names of the parent and the workspace
abbrev pub rows_shown : Parts → Table → List ℕ → List ℕ → Conflict → List Row
rows_shown p t parent child c = conflict_rows t c.key c.period parent child (rows_with p (stamps_in c.stamps))
