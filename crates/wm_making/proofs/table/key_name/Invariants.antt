use Rattle.std.proofs.Common.{◌≡◌, drop}
use Rattle.wm_making.specs.Creating.{key_name}
use Rattle.wm_making.proofs.table.key_name.Given as goal

abbrev pub invariant-loop-item : goal.invariant-loop-item
invariant-loop-item l = key_name l.items ≡ key_name (drop l.item-index l.items)
