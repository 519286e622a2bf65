use Rattle.std.proofs.Common.{◌≡◌, ◌++◌, map, take, drop}
use Rattle.wm_syntax.specs.Views.{outs_view}
use Rattle.wm_timed.specs.Timed.{timed_out}
use Rattle.wm_timed.proofs.queries.set_outs.Given as goal

abbrev pub invariant-loop-out : goal.invariant-loop-out
invariant-loop-out l = outs_view (take l.out-index l.outs) ++ map (timed_out l.moment) (outs_view (drop l.out-index l.outs)) ≡ map (timed_out l.moment) (outs_view l.initial.outs)
