use Rattle.std.proofs.Common.{◌≡◌, ◌++◌, drop}
use Rattle.std.specs.Option.{option_copied, option_to_list}
use Rattle.wm_dml.specs.Standing.{change_keys}
use Rattle.wm_state.specs.Drawing.{are_sorted}
use Rattle.wm_change.proofs.write_all.are_sorted.Given as goal

abbrev pub invariant-loop-change : goal.invariant-loop-change
invariant-loop-change l = are_sorted (change_keys l.changes) ≡ are_sorted (option_to_list (option_copied l.last) ++ change_keys (drop l.change-index l.changes))
