use Rattle.std.proofs.Common.{◌≡◌, ◌*◌, ◌+ℤ◌, ◌≤ℤ◌, neg_ℤ, pos, drop}
use Rattle.wm_select.specs.Aggregates.{present, total}
use Rattle.wm_select.proofs.aggregates.total.Given as goal

-- the sum so far, and that of what is left; each number adds less than 2^63 to it
abbrev pub invariant-loop-value : goal.invariant-loop-value
invariant-loop-value l = record {
  sum : l.total +ℤ total (present (drop l.value-index l.values)) ≡ total (present l.values);
  low : neg_ℤ (pos (9_223_372_036_854_775_808 * l.value-index)) ≤ℤ l.total;
  high : l.total ≤ℤ pos (9_223_372_036_854_775_807 * l.value-index);
}
