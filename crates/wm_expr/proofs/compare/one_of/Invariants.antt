use Rattle.std.proofs.Common.{◌≡◌, take}
use Rattle.wm_spec.specs.Conditions.{one_of}
use Rattle.wm_expr.specs.Seen.{seen_value}
use Rattle.wm_expr.proofs.compare.one_of.Given as goal

abbrev pub invariant-loop-constant : goal.invariant-loop-constant
invariant-loop-constant l = l.truth ≡ one_of (seen_value l.value) (take l.constant-index l.list)
