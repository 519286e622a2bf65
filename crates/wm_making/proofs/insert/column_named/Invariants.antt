use Rattle.std.proofs.Common.{◌≡◌, drop}
use Rattle.std.specs.List.{find}
use Rattle.wm_making.specs.Inserting.{has_name}
use Rattle.wm_making.proofs.insert.column_named.Given as goal

abbrev pub invariant-loop-column : goal.invariant-loop-column
invariant-loop-column l = find (has_name l.name) l.columns ≡ find (has_name l.name) (drop l.column-index l.columns)
