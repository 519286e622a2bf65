use Rattle.std.proofs.Common.{◌≡◌, length}
use Rattle.wm_ids.specs.Ids.{last_used}
use Rattle.wm_ids.proofs.keyed.last_key.Given as goal

abbrev pub invariant-loop-key : goal.invariant-loop-key
invariant-loop-key g l = last_used l.entries ≡ last_used l.map.entries

abbrev pub decreases-loop-key : goal.decreases-loop-key
decreases-loop-key g l = length l.entries
