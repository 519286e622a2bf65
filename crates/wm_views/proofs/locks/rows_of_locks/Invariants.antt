use Rattle.std.proofs.Common.{◌≡◌, map, take}
use Rattle.wm_graph.specs.Parts.{parts_of}
use Rattle.wm_guard.specs.Orders.{nows}
use Rattle.wm_model.specs.Sources.{recorded_name}
use Rattle.wm_view_rows.specs.Locks.{lock_row}
use Rattle.wm_views.proofs.locks.rows_of_locks.Given as goal

abbrev pub invariant-loop-lock : goal.invariant-loop-lock
invariant-loop-lock l = l.rows ≡ map (lock_row (recorded_name (parts_of l.image)) l.table) (nows (take l.lock-index l.locks))
