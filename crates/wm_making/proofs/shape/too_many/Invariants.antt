use Rattle.std.proofs.Common.{◌≡◌, ◌≤◌, cond, drop}
use Rattle.wm_making.specs.Creating.{too_many}
use Rattle.wm_making.proofs.shape.too_many.Given as goal

abbrev pub invariant-loop-item : goal.invariant-loop-item
invariant-loop-item l = record {
  same : too_many 0 0 l.items ≡ too_many l.columns (cond l.keyed 1 0) (drop l.item-index l.items);
  few : l.columns ≤ 32;
}
