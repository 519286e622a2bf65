-- a lock is made for each of the cells that were taken, and the next has the making behind them
use Rattle.std.proofs.Common.{◌≡◌, ◌+◌, length, map}
use Rattle.wm_spec.specs.declared.record.Record.TheVariants as records
use Rattle.wm_state.specs.Editing.{locks_made}
use Rattle.wm_lifecycle.proofs.locks.locks_made.Given as goal

abbrev pub invariant-loop-one : goal.invariant-loop-one
invariant-loop-one l = (l.news.items ≡ map records.Lock (locks_made l.fn.locks.space l.place l.fn.locks.mode l.fn.locks.user l.fn.making l.yielded)) × (l.making ≡ l.fn.making + length l.yielded)
