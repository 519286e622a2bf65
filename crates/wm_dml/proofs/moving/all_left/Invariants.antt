use Rattle.std.proofs.Common.{◌≡◌, true, take}
use Rattle.std.specs.List.{flat_map, list_all}
use Rattle.wm_dml.specs.Moving.{left_parts}
use Rattle.wm_dml.specs.Standing.{change_lasts}
use Rattle.wm_dml.proofs.moving.all_left.Given as goal

abbrev pub invariant-loop-one : goal.invariant-loop-one
invariant-loop-one l = record {
  same : l.changes.items ≡ flat_map (left_parts l.moves) (take l.one-index l.moves);
  last : list_all change_lasts l.changes.items ≡ true;
}
