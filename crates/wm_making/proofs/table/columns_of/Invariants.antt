use Rattle.std.proofs.Common.{◌≡◌, ◌++◌, drop}
use Rattle.std.specs.Option.{option_copied}
use Rattle.wm_making.specs.Creating.{columns_of}
use Rattle.wm_making.proofs.table.columns_of.Given as goal

abbrev pub invariant-loop-item : goal.invariant-loop-item
invariant-loop-item l = columns_of (option_copied l.key) l.items ≡ l.columns ++ columns_of (option_copied l.key) (drop l.item-index l.items)
