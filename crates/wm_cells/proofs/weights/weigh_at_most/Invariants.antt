use Rattle.std.proofs.Common.{◌≡◌, ◌+◌, take}
use Rattle.wm_graph.specs.Rules.{weight}
use Rattle.wm_cells.proofs.weights.weigh_at_most.Given as goal

abbrev pub invariant-loop-value : goal.invariant-loop-value
invariant-loop-value l = weight (take l.value-index l.values) + l.left ≡ l.most
