use Rattle.std.proofs.Common.{◌≡◌, ◌++◌, map, drop}
use Rattle.wm_guard.specs.Orders.{nows}
use Rattle.wm_spec.specs.declared.record.lock.Lock.{Lock}
use Rattle.wm_locking.proofs.unlock_rows.makings_of.Given as goal

abbrev pub invariant-loop-lock : goal.invariant-loop-lock
invariant-loop-lock l = l.makings.items ++ map (λ (x : Lock). x.making) (nows (drop l.lock-index l.locks)) ≡ map (λ (x : Lock). x.making) (nows l.locks)
