use Rattle.std.proofs.Common.{◌≡◌, take}
use Rattle.wm_temporal.specs.Uncovered.{uncovered}
use Rattle.wm_temporal.proofs.uncovering.uncovered.Given as goal

abbrev pub invariant-loop-old : goal.invariant-loop-old
invariant-loop-old l = l.list.items ≡ uncovered (take l.old-index l.olds) l.news
