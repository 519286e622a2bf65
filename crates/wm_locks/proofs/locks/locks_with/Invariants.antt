use Rattle.std.proofs.Common.{◌≡◌, ◌++◌, drop}
use Rattle.wm_graph.specs.Parts.{as_lock}
use Rattle.wm_guard.specs.Orders.{nows}
use Rattle.wm_index.specs.Kinds.{kind_at}
use Rattle.wm_locks.proofs.locks.locks_with.Given as goal

abbrev pub invariant-loop-id : goal.invariant-loop-id
invariant-loop-id l = nows l.locks.items ++ kind_at as_lock l.image (drop l.id-index l.ids) ≡ kind_at as_lock l.image l.ids
