use Rattle.std.proofs.Common.{◌≡◌, ◌++◌, map, take, drop}
use Rattle.wm_syntax.specs.Views.{sets_view}
use Rattle.wm_timed.specs.Timed.{timed_set}
use Rattle.wm_timed.proofs.statements.set_sets.Given as goal

abbrev pub invariant-loop-set : goal.invariant-loop-set
invariant-loop-set l = sets_view (take l.set-index l.sets) ++ map (timed_set l.moment) (sets_view (drop l.set-index l.sets)) ≡ map (timed_set l.moment) (sets_view l.initial.sets)
