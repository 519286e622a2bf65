use Rattle.std.proofs.Common.{◌≡◌, ◌++◌}
use Rattle.std.specs.List.{flat_map}
use Rattle.wm_guard.specs.Orders.{nows}
use Rattle.wm_locks.proofs.Looking.{block}
use Rattle.wm_locks.proofs.locks.locks_in.Given as goal

abbrev pub invariant-loop-ids : goal.invariant-loop-ids
invariant-loop-ids l = nows l.locks.items ++ flat_map (block l.image) l.ids-iterator ≡ flat_map (block l.image) l.initial.ids-iterator
