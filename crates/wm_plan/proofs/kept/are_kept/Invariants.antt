use Rattle.std.proofs.Common.{◌≡◌, drop}
use Rattle.std.specs.List.{list_all}
use Rattle.wm_state.specs.Drafts.{can_keep}
use Rattle.wm_plan.proofs.kept.are_kept.Given as goal

abbrev pub invariant-loop-value : goal.invariant-loop-value
invariant-loop-value l = list_all can_keep (drop l.value-index l.values) ≡ list_all can_keep l.values
