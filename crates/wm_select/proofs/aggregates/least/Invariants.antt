use Rattle.std.proofs.Common.{◌≡◌, drop, option_copied}
use Rattle.wm_select.specs.Aggregates.{present, least, least_beside}
use Rattle.wm_select.proofs.aggregates.least.Given as goal

-- what is found so far, beside what is left to look at
abbrev pub invariant-loop-value : goal.invariant-loop-value
invariant-loop-value l = least_beside (option_copied l.least) (present (drop l.value-index l.values)) ≡ least (present l.values)
