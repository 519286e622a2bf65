use Rattle.std.proofs.Common.{◌≡◌, drop}
use Rattle.std.specs.List.{list_any}
use Rattle.wm_syntax.specs.Views.{outs_view}
use Rattle.wm_calls.specs.Empty.{out_has_empty}
use Rattle.wm_calls.proofs.empty.any_out.Given as goal

abbrev pub invariant-loop-out : goal.invariant-loop-out
invariant-loop-out l = list_any out_has_empty (outs_view l.outs) ≡ list_any out_has_empty (outs_view (drop l.out-index l.outs))
