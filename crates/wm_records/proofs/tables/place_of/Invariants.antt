use Rattle.std.proofs.Common.{take}
use Rattle.wm_records.proofs.Cataloguing.{Smaller}
use Rattle.wm_records.proofs.tables.place_of.Given as goal

abbrev pub invariant-loop-place : goal.invariant-loop-place
invariant-loop-place l = Smaller l.table.number (take l.place l.tables)
