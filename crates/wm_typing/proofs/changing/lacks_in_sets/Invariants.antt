use Rattle.std.proofs.Common.{◌≡◌, drop}
use Rattle.wm_syntax.specs.Views.{sets_view}
use Rattle.wm_typing.specs.Lacking.{lacks_in_sets}
use Rattle.wm_typing.proofs.changing.lacks_in_sets.Given as goal

abbrev pub invariant-loop-set : goal.invariant-loop-set
invariant-loop-set l = lacks_in_sets l.columns (sets_view (drop l.set-index l.sets)) ≡ lacks_in_sets l.columns (sets_view l.sets)
