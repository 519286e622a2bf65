use Rattle.std.proofs.Common.{◌≡◌, map, take, slice_get}
use Rattle.std.specs.List.{filter_map}
use Rattle.wm_typing.specs.Columns.{declared_column}
use Rattle.wm_decided.proofs.keyed.key_columns.Given as goal

abbrev pub invariant-loop-place : goal.invariant-loop-place
invariant-loop-place l = l.columns.items ≡ map (declared_column l.source) (filter_map (slice_get l.table.columns) (take l.place-index l.place-items))
