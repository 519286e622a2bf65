use Rattle.std.proofs.Common.{◌≡◌, drop}
use Rattle.wm_syntax.specs.Views.{sets_view}
use Rattle.wm_typing.specs.Changing.{key_set}
use Rattle.wm_typing.proofs.changing.key_set.Given as goal

abbrev pub invariant-loop-set : goal.invariant-loop-set
invariant-loop-set l = key_set l.table (sets_view (drop l.set-index l.sets)) ≡ key_set l.table (sets_view l.sets)
