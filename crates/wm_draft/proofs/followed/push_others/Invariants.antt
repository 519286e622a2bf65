-- those of other ids that were gone through are behind the others
use Rattle.std.proofs.Common.{◌≡◌, ◌++◌, not}
use Rattle.std.specs.BTreeSet.{contains}
use Rattle.std.specs.List.{filter}
use Rattle.std.specs.Ordering.{nat_cmp}
use Rattle.wm_spec.specs.declared.record.batch.Change.{Change}
use Rattle.wm_draft.proofs.followed.push_others.Given as goal

abbrev pub invariant-loop-change : goal.invariant-loop-change
invariant-loop-change l = l.all ≡ l.fn.all ++ filter (λ (c : Change). not (contains nat_cmp l.ids c.id)) l.yielded
