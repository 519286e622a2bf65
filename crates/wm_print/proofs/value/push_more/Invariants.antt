use Rattle.std.proofs.Common.{◌≡◌, ◌++◌, drop}
use Rattle.wm_print.specs.Values.{more}
use Rattle.wm_print.proofs.value.push_more.Given as goal

-- what is written, and what is left to write
abbrev pub invariant-loop-value : goal.invariant-loop-value
invariant-loop-value l = l.out ++ more l.separator (drop l.value-index l.values) ≡ l.fn.out ++ more l.separator l.values
