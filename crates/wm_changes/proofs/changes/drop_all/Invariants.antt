-- those that were gone through are dropped
use Rattle.std.proofs.Common.{◌≡◌, ◌++◌, map, take}
use Rattle.wm_state.specs.Batches.{drop_one}
use Rattle.wm_changes.proofs.changes.drop_all.Given as goal

abbrev pub invariant-loop-id : goal.invariant-loop-id
invariant-loop-id l = l.changes ≡ l.initial.changes ++ map drop_one (take l.id-index l.ids)
