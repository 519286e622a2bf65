use Rattle.std.proofs.Common.{length}
use Rattle.wm_select.proofs.group_key.+feed_all.Given as goal

-- fewer values are left each time
abbrev pub decreases-feed_all : goal.decreases-feed_all
decreases-feed_all g l = length l.values.now
