use Rattle.std.proofs.Common.{◌≡◌, ◌++◌, true, map}
use Rattle.std.specs.List.{list_all}
use Rattle.wm_dml.specs.Moving.{moved_row}
use Rattle.wm_dml.specs.Standing.{change_lasts}
use Rattle.wm_dml.proofs.moving.push_moved.Given as goal

abbrev pub invariant-loop-one : goal.invariant-loop-one
invariant-loop-one l = record {
  same : l.changes.items ≡ l.initial.changes.items ++ map moved_row l.yielded;
  last : list_all change_lasts l.changes.items ≡ true;
}
