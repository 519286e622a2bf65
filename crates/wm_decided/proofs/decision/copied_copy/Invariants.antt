use Rattle.std.proofs.Common.{◌≡◌, take}
use Rattle.wm_decided.proofs.decision.copied_copy.Given as goal

abbrev pub invariant-loop-one : goal.invariant-loop-one
invariant-loop-one l = l.list.items ≡ take l.one-index l.copied
