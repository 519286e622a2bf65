use Rattle.std.proofs.Common.{◌≡◌, [], take, drop}
use Rattle.wm_making.specs.Creating.{misplaced}
use Rattle.wm_making.proofs.misplaced.misplaced.Given as goal

abbrev pub invariant-loop-place : goal.invariant-loop-place
invariant-loop-place g l = misplaced (g.T.HasColumns.has l.table) [] l.names ≡ misplaced (g.T.HasColumns.has l.table) (take l.place l.names) (drop l.place l.names)
