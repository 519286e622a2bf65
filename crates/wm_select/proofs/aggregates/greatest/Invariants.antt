use Rattle.std.proofs.Common.{◌≡◌, drop, option_copied}
use Rattle.wm_select.specs.Aggregates.{present, greatest, greatest_beside}
use Rattle.wm_select.proofs.aggregates.greatest.Given as goal

-- what is found so far, beside what is left to look at
abbrev pub invariant-loop-value : goal.invariant-loop-value
invariant-loop-value l = greatest_beside (option_copied l.greatest) (present (drop l.value-index l.values)) ≡ greatest (present l.values)
