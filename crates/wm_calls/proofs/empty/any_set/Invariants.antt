use Rattle.std.proofs.Common.{◌≡◌, drop}
use Rattle.std.specs.List.{list_any}
use Rattle.wm_syntax.specs.Views.{sets_view}
use Rattle.wm_calls.specs.Empty.{set_has_empty}
use Rattle.wm_calls.proofs.empty.any_set.Given as goal

abbrev pub invariant-loop-set : goal.invariant-loop-set
invariant-loop-set l = list_any set_has_empty (sets_view l.sets) ≡ list_any set_has_empty (sets_view (drop l.set-index l.sets))
