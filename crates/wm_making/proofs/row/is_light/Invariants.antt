use Rattle.std.proofs.Common.{◌≡◌, ◌+◌, take}
use Rattle.wm_graph.specs.Rules.{weight}
use Rattle.wm_making.proofs.row.is_light.Given as goal

abbrev pub invariant-loop-value : goal.invariant-loop-value
invariant-loop-value l = weight (take l.value-index l.row) + l.left ≡ 2000
