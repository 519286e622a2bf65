use Rattle.std.proofs.Common.{◌≡◌, ◌++◌, drop}
use Rattle.wm_temporal.specs.Uncovered.{free}
use Rattle.wm_temporal.proofs.uncovering.push_free.Given as goal

abbrev pub invariant-loop-new : goal.invariant-loop-new
invariant-loop-new l = l.into.items ++ free l.from l.till (drop l.new-index l.news) ≡ l.initial.into.items ++ free l.initial.from l.till l.news
