use Rattle.std.proofs.Common.{◌≡◌, ◌++◌, true, map, take}
use Rattle.std.specs.List.{list_all}
use Rattle.wm_dml.specs.Moving.{left_part}
use Rattle.wm_dml.specs.Standing.{change_lasts}
use Rattle.wm_dml.proofs.moving.push_parts.Given as goal

abbrev pub invariant-loop-part : goal.invariant-loop-part
invariant-loop-part l = record {
  same : l.changes.items ≡ l.initial.changes.items ++ map (left_part l.one) (take l.part-index l.parts);
  last : list_all change_lasts l.changes.items ≡ true;
}
