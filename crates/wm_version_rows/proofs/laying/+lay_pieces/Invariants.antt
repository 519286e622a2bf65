use Rattle.std.proofs.Common.{length}
use Rattle.wm_version_rows.proofs.laying.+lay_pieces.Given as goal

abbrev pub decreases-lay_pieces : goal.decreases-lay_pieces
decreases-lay_pieces l = length l.ids.now
