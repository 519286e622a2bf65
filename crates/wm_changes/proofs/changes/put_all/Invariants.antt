-- those that were taken are put, and the next one has the id behind them
use Rattle.std.proofs.Common.{◌≡◌, ◌+◌, ◌++◌, length}
use Rattle.wm_state.specs.Writes.{put_all}
use Rattle.wm_changes.proofs.changes.put_all.Given as goal

abbrev pub invariant-loop-record : goal.invariant-loop-record
invariant-loop-record l = (l.changes ≡ l.initial.changes ++ put_all l.fn.id l.yielded) × (l.id ≡ l.fn.id + length l.yielded)
