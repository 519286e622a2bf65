use Rattle.std.proofs.Common.{◌≡◌, ◌++◌, drop}
use Rattle.std.specs.List.{filter}
use Rattle.wm_guard.specs.Orders.{nows}
use Rattle.wm_locking.specs.Freed.{is_users}
use Rattle.wm_locking.proofs.unlock_rows.users.Given as goal

abbrev pub invariant-loop-lock : goal.invariant-loop-lock
invariant-loop-lock l = nows l.held.items ++ filter (is_users l.session l.space) (nows (drop l.lock-index l.locks)) ≡ filter (is_users l.session l.space) (nows l.locks)
