-- the entries of those that were taken are there, and the next stamp is the one behind theirs
use Rattle.std.proofs.Common.{◌≡◌, ◌+◌, length, map}
use Rattle.wm_model.specs.Entered.{entries_from}
use Rattle.wm_state.specs.Editing.{entry_of}
use Rattle.wm_change.proofs.write_changes.entries_of.Given as goal

abbrev pub invariant-loop-change : goal.invariant-loop-change
invariant-loop-change l = record {
  entries : map entry_of l.entries.items ≡ entries_from l.fn.stamp l.moment l.user l.table l.yielded;
  stamp : l.stamp ≡ l.fn.stamp + length l.yielded;
}
