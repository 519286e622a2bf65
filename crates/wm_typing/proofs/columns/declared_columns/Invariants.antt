use Rattle.std.proofs.Common.{◌≡◌, map, take}
use Rattle.wm_typing.specs.Columns.{declared_column}
use Rattle.wm_typing.proofs.columns.declared_columns.Given as goal

abbrev pub invariant-loop-column : goal.invariant-loop-column
invariant-loop-column l = l.list.items ≡ map (declared_column l.source) (take l.column-index l.columns)
