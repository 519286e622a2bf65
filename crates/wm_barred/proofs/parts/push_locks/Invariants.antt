use Rattle.std.proofs.Common.{◌≡◌, ◌++◌, map, drop}
use Rattle.wm_model.specs.Step.{lock_over}
use Rattle.wm_barred.specs.Views.{stretch_view}
use Rattle.wm_barred.proofs.parts.push_locks.Given as goal

abbrev pub invariant-loop-period : goal.invariant-loop-period
invariant-loop-period l = l.parts.items ++ map (lock_over (stretch_view l.cells)) (drop l.period-index l.periods) ≡ l.initial.parts.items ++ map (lock_over (stretch_view l.cells)) l.periods
