use Rattle.std.proofs.Common.{◌≡◌, [], drop, take}
use Rattle.wm_syntax.specs.Views.{sets_view}
use Rattle.wm_typing.specs.Changing.{unknown_in_sets}
use Rattle.wm_typing.proofs.changing.unknown_in_sets.Given as goal

abbrev pub invariant-loop-index : goal.invariant-loop-index
invariant-loop-index l = unknown_in_sets l.columns (sets_view (take l.index l.sets)) (sets_view (drop l.index l.sets)) ≡ unknown_in_sets l.columns [] (sets_view l.sets)
