use Rattle.std.proofs.Common.{◌≡◌, ◌++◌}
use Rattle.wm_lifecycle.proofs.locks.in_order.Given as goal

abbrev pub invariant-loop-id : goal.invariant-loop-id
invariant-loop-id l = l.ids.items ++ l.id-iterator ≡ l.set.keys
