-- the ids of those that were gone through are there
use Rattle.std.proofs.Common.{◌≡◌, ℕ, take}
use Rattle.std.specs.BTreeSet.{contains}
use Rattle.std.specs.List.{list_any}
use Rattle.std.specs.Ordering.{nat_cmp}
use Rattle.wm_state.specs.Drafts.{is_change_of}
use Rattle.wm_draft.proofs.followed.ids_of.Given as goal

abbrev pub invariant-loop-change : goal.invariant-loop-change
invariant-loop-change l = (id : ℕ) → contains nat_cmp l.ids id ≡ list_any (is_change_of id) (take l.change-index l.changes)
