use Rattle.std.proofs.Common.{◌≡◌, drop}
use Rattle.wm_making.specs.Creating.{own_column}
use Rattle.wm_making.proofs.names.own_column.Given as goal

abbrev pub invariant-loop-item : goal.invariant-loop-item
invariant-loop-item l = own_column l.items ≡ own_column (drop l.item-index l.items)
