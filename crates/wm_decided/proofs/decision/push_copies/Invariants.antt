use Rattle.std.proofs.Common.{◌≡◌, ◌++◌, take}
use Rattle.wm_decided.proofs.decision.push_copies.Given as goal

abbrev pub invariant-loop-decision : goal.invariant-loop-decision
invariant-loop-decision l = l.decisions.items ≡ l.fn.decisions.items ++ take l.decision-index l.more
