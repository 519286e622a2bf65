use Rattle.std.proofs.Common.{◌≡◌, drop}
use Rattle.std.specs.List.{list_any}
use Rattle.wm_syntax.specs.Trees.{Out, is_aggregate}
use Rattle.wm_syntax.specs.Views.{outs_view}
use Rattle.wm_syntax.proofs.aggregates.any_aggregate.Given as goal

abbrev pub invariant-loop-out : goal.invariant-loop-out
invariant-loop-out l = list_any (λ (o : Out). is_aggregate o.item) (outs_view (drop l.out-index l.outs)) ≡ list_any (λ (o : Out). is_aggregate o.item) (outs_view l.outs)
