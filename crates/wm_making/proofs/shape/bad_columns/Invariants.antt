use Rattle.std.proofs.Common.{◌≡◌, [], take, drop}
use Rattle.wm_making.specs.Creating.{bad_columns}
use Rattle.wm_making.proofs.shape.bad_columns.Given as goal

abbrev pub invariant-loop-place : goal.invariant-loop-place
invariant-loop-place l = bad_columns l.table [] l.items ≡ bad_columns l.table (take l.place l.items) (drop l.place l.items)
