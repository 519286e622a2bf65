use Rattle.std.proofs.Common.{◌≡◌, true, take, drop}
use Rattle.std.specs.Prelude.{map}
use Rattle.wm_dml.specs.Changing.{all_overlap, gone}
use Rattle.wm_dml.proofs.deleting.all_gone.Given as goal

abbrev pub invariant-loop-row : goal.invariant-loop-row
invariant-loop-row l = record {
  overlap : all_overlap l.table l.within (drop l.row-index l.rows) ≡ true;
  same : l.changes.items ≡ map (gone l.table l.within) (take l.row-index l.rows);
}
